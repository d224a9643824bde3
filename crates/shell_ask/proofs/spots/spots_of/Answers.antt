-- A turn makes the child of one more name (`spots_on`), and the names left after it are still among all: the tail of a list is in it.
use Rattle.std.proofs.Common.{rules, ◌≡◌, ◌++◌, ◌∙◌, false, List, [], ◌∷◌, map, Contains, if◌then◌else◌, is_ok, is_err, Result, Ok, Err}
use Rattle.std.proofs.Common.{String, string_bytes, sym, ap, subst}
use Rattle.std.proofs.lemmas.List.Elements.{Contains-append_right}
use Rattle.shell_ask.specs.Trees.{child_of}
use Rattle.shell_ask.specs.inner.Trees.{spot_view}
use Rattle.shell_ask.proofs.Walking.{spots_on}
use Rattle.shell_ask.proofs.spots.spots_of.Goals as goal

pushed : {X T E : Type 0} (r : Result T E) (old new : List X) (x : X)
    → is_err r ≡ false → new ≡ (if is_ok r then old ++ x ∷ [] else old) → new ≡ old ++ x ∷ []
pushed (Ok y) old new x fine is = is
pushed (Err e) old new x fine is = absurd cc

pub loop-name-preserved : goal.loop-name-preserved
loop-name-preserved g c =
    let spot = spot_view c.args.spot.now in
    let item = c.in-Some.name.now in
    let rest = c.next.new.self in
    let fine : is_err c.push.result ≡ false = search rules in
    let left : c.loop-name.name-iterator ≡ item ∷ rest = search rules in
    let child : spot_view c.in_ok-child.child ≡ child_of spot (string_bytes item) =
    c.in_ok-child.ensures.ok ∙ ap (child_of spot) c.as_str.ensures.value in
    let more = pushed c.push.result c.loop-name.spots.items c.push.new.self.items c.in_ok-child.child fine c.push.ensures.items in
    record {
      made = ap (λ l. map spot_view l ++ map (child_of spot) (map string_bytes rest)) more
          ∙ spots_on c.loop-name.spots.items c.in_ok-child.child spot (string_bytes item) (map string_bytes rest) child
          ∙ ap (λ (l : List (String g.row.A.Denot)). map spot_view c.loop-name.spots.items ++ map (child_of spot) (map string_bytes l))
          (sym left)
          ∙ c.loop-name.invariant.made;
      within = λ name has. c.loop-name.invariant.within name
          (subst (λ (l : List (String g.row.A.Denot)). Contains (map string_bytes l) name) (sym left)
          (Contains-append_right (string_bytes item ∷ []) (map string_bytes rest) name has));
    }
