-- What is kept of each path, by what a cache keeps: two caches are one that keep the same of each path, so each call on a cache is followed
-- at one path.
use Rattle.std.proofs.Common.{◌≡◌, Bool, true, false, ◌&&◌, Option, refl, ap, ◌∙◌}
use Rattle.std.specs.Prelude.{bytes_eq, if◌then◌else◌}
use Rattle.zk_nodes.specs.Path.{Text}
use Rattle.zk_nodes.specs.declared.side.Side.TheVariants.{Data, Child}
use Rattle.zk_cache.specs.Cache.{Answers, data_kept, names_kept, no_answers, with_stale, with_good}
use Rattle.zk_cache.specs.Kept.{stale}
use Rattle.zk_cache.specs.declared.held.Kept.{Kept}
use Rattle.zk_cache.proofs.CallerLemmas.{keeps_each}
use Rattle.zk_turns.specs.View.{Cache}
use Rattle.zk_turns.specs.Rule.{empty_cache, forgotten}
use Rattle.zk_client.specs.inner.Seen.{cache_of}

pub cache-ext : (a b : Cache) → ((path : Text) → a.nodes path ≡ b.nodes path) → ((path : Text) → a.children path ≡ b.children path) → a ≡ b
cache-ext a b p q = λ i. record { nodes = λ path. p path i; children = λ path. q path i }

pub nothing-kept : (answers : Answers) → answers ≡ no_answers → cache_of answers ≡ empty_cache
nothing-kept answers e = ap cache_of e ∙ cache-ext (cache_of no_answers) empty_cache
    (λ path. let k = keeps_each no_answers in (k.nothing path).0) (λ path. let k = keeps_each no_answers in (k.nothing path).1)

pub good-kept : (old new : Answers) → new ≡ with_good old → cache_of new ≡ forgotten (cache_of old)
good-kept old new e = ap cache_of e ∙ cache-ext (cache_of (with_good old)) (forgotten (cache_of old))
    (λ path. let k = keeps_each old in (k.forgotten path).0) (λ path. let k = keeps_each old in (k.forgotten path).1)

-- what the other side's notice leaves as it was, and what its own spoils
module _ {A : Type 0} (kept : Answers → Text → Option (Kept A)) (answers spoilt : Answers) (text : Text) where
  left-alone : (b : Bool) → kept spoilt text ≡ kept answers text → kept (if b then spoilt else answers) text ≡ kept answers text
  left-alone true e = e
  left-alone false e = refl

  spoils : (b about : Bool) → kept spoilt text ≡ (if about then stale (kept answers text) else kept answers text)
      → kept (if b then spoilt else answers) text ≡ (if b && about then stale (kept answers text) else kept answers text)
  spoils true about e = e
  spoils false about e = refl

-- one side after the other
pub spoilt-nodes : (old mid new : Answers) (a b : Bool) (at text : Text) → mid ≡ (if a then with_stale old Data at else old)
    → new ≡ (if b then with_stale mid Child at else mid)
    → data_kept new text ≡ (if a && bytes_eq at text then stale (data_kept old text) else data_kept old text)
spoilt-nodes old mid new a b at text e f =
    let k = keeps_each old in
    ap (λ (x : Answers). data_kept x text) f ∙ left-alone data_kept mid (with_stale mid Child at) text b refl
    ∙ ap (λ (x : Answers). data_kept x text) e
    ∙ spoils data_kept old (with_stale old Data at) text a (bytes_eq at text) (k.spoilt_data at text)

pub spoilt-children : (old mid new : Answers) (a b : Bool) (at text : Text) → mid ≡ (if a then with_stale old Data at else old)
    → new ≡ (if b then with_stale mid Child at else mid)
    → names_kept new text ≡ (if b && bytes_eq at text then stale (names_kept old text) else names_kept old text)
spoilt-children old mid new a b at text e f =
    let k = keeps_each mid in
    ap (λ (x : Answers). names_kept x text) f
    ∙ spoils names_kept mid (with_stale mid Child at) text b (bytes_eq at text) (k.spoilt_names at text)
    ∙ ap (λ n. if b && bytes_eq at text then stale n else n)
    (ap (λ (x : Answers). names_kept x text) e ∙ left-alone names_kept old (with_stale old Data at) text a refl)
