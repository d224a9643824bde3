-- What a map with text keys becomes, seen as a finite map.
use Rattle.std.proofs.Common.{◌≡◌, ℕ, Bool, true, false, cond, List, [], ◌∷◌, map, Option, Some, None, option_map, is_some, String}
use Rattle.std.proofs.Common.{string_bytes, bytes_eq, refl, sym, ap, ◌∙◌, if◌then◌else◌}
use Rattle.std.specs.Ordering.{nat_cmp}
use Rattle.std.specs.Cmp.Lexicographic.{slice_cmp}
use Rattle.std.proofs.lemmas.Cmp.{nat_list_cmp_total, nat_list_eq_equiv}
use Rattle.std.proofs.lemmas.Slice.Eq.{bytes_eq-Decides}
use Rattle.std.proofs.lemmas.Map.Text.{is_eq-slice_cmp}
use Rattle.std.specs.Option.{option_map_or}
use Rattle.std.specs.Map.{lookup}
use Rattle.std.specs.FinMap as finite
use Rattle.indexmap.specs.IndexMap.{IndexMap, get_by_text}
use Rattle.zk_cache.specs.declared.held.Kept.{Kept}
use Rattle.zk_cache.specs.declared.held.Mark.{Mark}
use Rattle.zk_cache.specs.declared.held.Mark.TheVariants.{Good, Stale}
use Rattle.zk_cache.specs.Kept.{if_good, stale, without_stale, is_good, is_marked_good}
use Rattle.zk_cache.specs.Look.{ByText, as_map}
use Rattle.zk_cache.specs.Cache.{stale_at, good_of}
use Rattle.zk_cache.specs.Contents.{seen_by}

module _ {Y : Type 0} where
  -- two maps that answer alike are one
  pub same : (m n : ByText Y) → ((path : List ℕ) → finite.get m path ≡ finite.get n path) → m ≡ n
  same m n h = finite.same_map nat_list_cmp_total (finite.slice_cmp-IsAntisymmetric finite.nat_cmp-IsAntisymmetric) m n h

  -- a look-up after an insert
  pub get-insert : (m : ByText Y) (path : List ℕ) (v : Y) (other : List ℕ)
      → finite.get (finite.insert m path v) other ≡ (if bytes_eq path other then Some v else finite.get m other)
  get-insert m path v other =
      finite.get-insert nat_list_cmp_total m path v other
      ∙ ap (λ b. if b then Some v else finite.get m other) (is_eq-slice_cmp other path ∙ nat_list_eq_equiv.symm other path)

  -- to insert what is there changes nothing
  pub insert-same : (m : ByText Y) (path : List ℕ) (v : Y) → finite.get m path ≡ Some v → finite.insert m path v ≡ m
  insert-same m path v h =
      same (finite.insert m path v) m (λ other. get-insert m path v other ∙ by (bytes_eq path other) other (bytes_eq-Decides path other).0)
    where
      by : (b : Bool) (other : List ℕ) → (b ≡ true → path ≡ other) → (if b then Some v else finite.get m other) ≡ finite.get m other
      by true other e = sym h ∙ ap (finite.get m) (e refl)
      by false other e = refl

option_map-cond : {V W : Type 0} (f : V → W) (b : Bool) (v : V) (o : Option V)
    → cond b (Some (f v)) (option_map f o) ≡ option_map f (cond b (Some v) o)
option_map-cond f true v o = refl
option_map-cond f false v o = refl

module _ {A V W S : Type 0} (f : V → W) where
  -- a look-up sees what the map's own look-up by text does
  pub get-as_map : (m : IndexMap (String A) V S) (path : List ℕ) → finite.get (as_map f m) path ≡ option_map f (get_by_text m path)
  get-as_map m path = finite.get-from_entries nat_list_cmp_total (map (λ e. (string_bytes e.0, f e.1)) m.entries) path ∙ by m.entries
    where
      by : (es : List (String A × V)) → finite.find (slice_cmp nat_cmp) path (map (λ e. (string_bytes e.0, f e.1)) es)
          ≡ option_map f (lookup (λ k. bytes_eq path (string_bytes k)) es)
      by [] = refl
      by (e ∷ es) =
          (λ i. cond (is_eq-slice_cmp path (string_bytes e.0) i) (Some (f e.1)) (by es i))
          ∙ option_map-cond f (bytes_eq path (string_bytes e.0)) e.1 (lookup (λ k. bytes_eq path (string_bytes k)) es)

  -- after a value was put
  pub as_map-put : (m n : IndexMap (String A) V S) (path : List ℕ) (v : V)
      → ((other : List ℕ) → get_by_text n other ≡ (if bytes_eq path other then Some v else get_by_text m other))
      → as_map f n ≡ finite.insert (as_map f m) path (f v)
  as_map-put m n path v h =
      same (as_map f n) (finite.insert (as_map f m) path (f v))
      (λ other.
      get-as_map n other ∙ ap (option_map f) (h other)
      ∙ sym (option_map-cond f (bytes_eq path other) v (get_by_text m other))
      ∙ ap (λ o. if bytes_eq path other then Some (f v) else o) (sym (get-as_map m other))
      ∙ sym (get-insert (as_map f m) path (f v) other))

-- a look-up among the good answers
pub get-good_of : {Y : Type 0} (m : ByText (Kept Y)) (path : List ℕ)
    → finite.get (good_of m) path ≡ cond (is_marked_good (finite.get m path)) (finite.get m path) None
get-good_of m path = finite.get-retain_keys m (λ p. is_marked_good (finite.get m p)) path
    (λ x tied. ap is_marked_good (finite.get_tied nat_list_cmp_total m path x tied))

module _ {A X Y S : Type 0} (f : X → Y) where
  -- after an answer was marked stale
  pub as_map-stale : (m n : IndexMap (String A) (Kept X) S) (path : List ℕ)
      → ((other : List ℕ) → get_by_text n other ≡ (if bytes_eq path other then stale (get_by_text m path) else get_by_text m other))
      → as_map (seen_by f) n ≡ stale_at (as_map (seen_by f) m) path
  as_map-stale m n path h = by (get_by_text m path) refl
    where
      unchanged : (b : Bool) (other : List ℕ) → (b ≡ true → path ≡ other)
          → get_by_text m path ≡ None → (if b then stale (get_by_text m path) else get_by_text m other) ≡ get_by_text m other
      unchanged true other same e = ap stale e ∙ sym e ∙ ap (get_by_text m) (same refl)
      unchanged false other same e = refl

      by : (r : Option (Kept X)) → get_by_text m path ≡ r → as_map (seen_by f) n ≡ stale_at (as_map (seen_by f) m) path
      by (Some held) e =
          as_map-put (seen_by f) m n path (record { answer = held.answer; mark = Stale })
          (λ other. h other ∙ ap (λ r. if bytes_eq path other then stale r else get_by_text m other) e)
          ∙ sym (ap (λ r. option_map_or (λ kept. finite.insert (as_map (seen_by f) m) path (record { answer = kept.answer; mark = Stale }))
          r (as_map (seen_by f) m)) (get-as_map (seen_by f) m path ∙ ap (option_map (seen_by f)) e))
      by None e =
          same (as_map (seen_by f) n) (as_map (seen_by f) m)
          (λ other. get-as_map (seen_by f) n other ∙ ap (option_map (seen_by f))
          (h other ∙ unchanged (bytes_eq path other) other (bytes_eq-Decides path other).0 e) ∙ sym (get-as_map (seen_by f) m other))
          ∙ sym (ap (λ r. option_map_or (λ kept. finite.insert (as_map (seen_by f) m) path (record { answer = kept.answer; mark = Stale }))
          r (as_map (seen_by f) m)) (get-as_map (seen_by f) m path ∙ ap (option_map (seen_by f)) e))

  -- after the stale answers went
  pub as_map-good : (m n : IndexMap (String A) (Kept X) S)
      → ((path : List ℕ) → get_by_text n path ≡ without_stale (get_by_text m path))
      → as_map (seen_by f) n ≡ good_of (as_map (seen_by f) m)
  as_map-good m n h =
      same (as_map (seen_by f) n) (good_of (as_map (seen_by f) m))
      (λ path.
      get-as_map (seen_by f) n path ∙ ap (option_map (seen_by f)) (h path) ∙ by (get_by_text m path)
      ∙ ap (λ r. cond (is_marked_good r) r None) (sym (get-as_map (seen_by f) m path))
      ∙ sym (get-good_of (as_map (seen_by f) m) path))
    where
      by_mark : (answer : X) (mark : Mark)
          → option_map (seen_by f) (if_good answer mark)
          ≡ cond (is_good mark) (Some (seen_by f (record { answer = answer; mark = mark }))) None
      by_mark answer Good = refl
      by_mark answer Stale = refl

      by : (r : Option (Kept X))
          → option_map (seen_by f) (without_stale r) ≡ cond (is_marked_good (option_map (seen_by f) r)) (option_map (seen_by f) r) None
      by None = refl
      by (Some held) = by_mark held.answer held.mark

-- what a look-up by text gave is what the finite map has
pub seen : {A R X Y S : Type 0} (f : X → Y) (now : R → X) (m : IndexMap (String A) (Kept X) S) (path : List ℕ) (r : Option (R × Mark))
    → option_map (λ kept. record { answer = now kept.0; mark = kept.1 }) r ≡ get_by_text m path
    → option_map (λ kept. record { answer = f (now kept.0); mark = kept.1 }) r ≡ finite.get (as_map (seen_by f) m) path
seen f now m path None e = ap (option_map (seen_by f)) e ∙ sym (get-as_map (seen_by f) m path)
seen f now m path (Some kept) e = ap (option_map (seen_by f)) e ∙ sym (get-as_map (seen_by f) m path)

-- what is in the map is in the finite map
pub is_kept : {A X Y S : Type 0} (f : X → Y) (m : IndexMap (String A) (Kept X) S) (path : List ℕ)
    → is_some (get_by_text m path) ≡ is_some (finite.get (as_map (seen_by f) m) path)
is_kept {X} f m path = by (get_by_text m path) ∙ sym (ap is_some (get-as_map (seen_by f) m path))
  where
    by : (r : Option (Kept X)) → is_some r ≡ is_some (option_map (seen_by f) r)
    by None = refl
    by (Some kept) = refl
