mod FoundLaws
mod PlainLaws
mod ReadLaws
mod TakenLaw
