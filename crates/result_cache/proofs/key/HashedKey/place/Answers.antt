use Rattle.std.proofs.Common.{◌%◌, ◌∙◌, ap}
use Rattle.record_store.specs.Path.{hash_of}
use Rattle.record_store.proofs.BucketLaws.{mask_is_mod}
use Rattle.result_cache.specs.Place.{key_words}
use Rattle.result_cache.specs.declared.key.CacheKey.{CacheKey}
use Rattle.result_cache.proofs.key.HashedKey.place.Goals as goal

pub returns : goal.returns
returns c =
    mask_is_mod c.self.inside.hash c.args.places c.requires
    ∙ ap (λ n. n % c.args.places) (c.self.invariant ∙ ap (λ (key : CacheKey). hash_of (key_words key)) c.self.view_is)
