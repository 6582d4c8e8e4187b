pub mod LimitLaws
pub mod Numbers
pub mod PairLaws
