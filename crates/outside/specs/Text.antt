-- What is written of an error.
use Rattle.std.specs.Prelude.{ℕ, List, codes}
use Rattle.outside.specs.declared.shelf.FetchError.{FetchError}
use Rattle.outside.specs.declared.shelf.FetchError.TheVariants.{Failed, TooLong, Memory}

abbrev pub fetch_error_text : FetchError → List ℕ
fetch_error_text Failed = codes "the file was not read"
fetch_error_text TooLong = codes "the file is too long"
fetch_error_text Memory = codes "out of memory"

abbrev pub put_failed_text : List ℕ
put_failed_text = codes "not all was written"
