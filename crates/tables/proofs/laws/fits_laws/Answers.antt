use Rattle.word_base.specs.declared.kind_name.KindName.TheVariants.{Evbdd, StarBmd, Hdd, KStarBmd}
use Rattle.tables.proofs.FitsLaws.{fits_parts}
use Rattle.tables.proofs.laws.fits_laws.Goals as goal

pub returns : goal.returns
returns c = record {
  evbdd = fits_parts Evbdd;
  star_bmd = fits_parts StarBmd;
  hdd = fits_parts Hdd;
  k_star_bmd = fits_parts KStarBmd;
}
