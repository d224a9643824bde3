-- What is wanted at a place, and what becomes of one by an answer that is about it.
use Rattle.std.proofs.Common.{ℕ, ℤ, ◌≡◌, ◌∙◌, inl, inr, Bool, true, false, arith, List, [], ◌∷◌, length, Option}
use Rattle.std.proofs.Common.{None, sym, refl, ap, subst, true≢false}
use Rattle.std.specs.List.{list_all, list_any}
use Rattle.zk_nodes.specs.Path.{Text, Name, path_of, name_of}
use Rattle.zk_conclusions.specs.Numbers.{Kind}
use Rattle.zk_turns.specs.View.{View}
use Rattle.zk_turns.specs.Turns.{Outcome}
use Rattle.zk_contend.specs.declared.contender.LockContender.{LockContender}
use Rattle.zk_contend.specs.declared.listed.Listed.{Listed}
use Rattle.zk_contend.specs.declared.naming.Naming.{Naming}
use Rattle.zk_contend.specs.declared.place.Ask.{Ask}
use Rattle.zk_contend.specs.declared.place.Ask.TheVariants.{List as ListsAgain, ReadBehind}
use Rattle.zk_contend.specs.declared.place.Place.{Place}
use Rattle.zk_contend.specs.declared.refused.Obstacle.{Obstacle}
use Rattle.zk_contend.specs.declared.refused.Obstacle.TheVariants.{Code, TooManyWatches, TooLarge, SessionClosed, NumbersUsedUp, MixedNames}
use Rattle.zk_contend.specs.Contenders.{is_listing}
use Rattle.zk_contend.specs.Dues.{RestsBy, RestsListed, StandsAt, WantsBy, WantsListed}
use Rattle.zk_contend.specs.Places.{shows_node, IsBehindOne, IsBehindWhere}
use Rattle.zk_contend.specs.Settling.{clearing, found, is_surplus, moved, Becomes, Hears, IsFound}
use Rattle.zk_contend.specs.Standings.{is_mixed_in, IsObstacle, IsStuckIn}
use Rattle.zk_contend.specs.inner.Abouts.{is_about_place, IsSurplusOf}

-- a list of no length
pub no_items : {X : Type 0} (items : List X) → length items ≡ 0 → items ≡ []
no_items [] none = refl
no_items (item ∷ items) none = absurd (omega (arith, none))

pub wants_again : {A : Type 0} (view : View) (contender : LockContender A) (own : Text) (listed : Listed A)
    → listed.behind.items ≡ [] → ((token : ℤ) → StandsAt view contender own listed token → ⊥)
    → WantsListed view contender own listed ListsAgain
wants_again view contender own listed none stands =
    subst (λ (b : List Text). WantsBy view contender own listed b ListsAgain) (sym none) stands

-- each that it waits for is watched, if there is one
pub rests_watched : {A : Type 0} (view : View) (contender : LockContender A) (own : Text) (listed : Listed A) (behind : List Text)
    → listed.behind.items ≡ behind → (behind ≡ [] → ⊥) → list_all (shows_node view) behind ≡ true
    → RestsListed view contender own listed
rests_watched view contender own listed [] is some watched = absurd (some refl)
rests_watched view contender own listed (path ∷ behind) is some watched =
    subst (λ (b : List Text). RestsBy view contender own listed b) (sym is) watched

-- nobody is waited for, and it holds
pub rests_held : {A : Type 0} (view : View) (contender : LockContender A) (own : Text) (listed : Listed A) (token : ℤ)
    → listed.behind.items ≡ [] → StandsAt view contender own listed token → RestsListed view contender own listed
rests_held view contender own listed token none stands =
    subst (λ (b : List Text). RestsBy view contender own listed b) (sym none) (token, stands)

pub hears_of_place : {A : Type 0} (session : ℤ) (contender : LockContender A) (ask : Ask) (outcome : Outcome) (next : Option (Place A))
    (new : Place A) → is_about_place ask ≡ true → Becomes session contender contender.place ask outcome next
    → new ≡ moved contender.place next → Hears session contender ask outcome new
hears_of_place session contender ListsAgain outcome next new about is e = absurd (true≢false (sym about))
hears_of_place session contender (ReadBehind at) outcome next new about is e = absurd (true≢false (sym about))
hears_of_place session contender ask outcome next new about is e = (next, is, e)

-- another thing is about the place
pub about_place : (ask : Ask) → (ask ≡ ListsAgain → ⊥) → ((at : ℕ) → ask ≡ ReadBehind at → ⊥) → is_about_place ask ≡ true
about_place ListsAgain lists reads = absurd (lists refl)
about_place (ReadBehind at) lists reads = absurd (reads at refl)
about_place ask lists reads = refl

pub not_listing : (ask : Ask) → (ask ≡ ListsAgain → ⊥) → is_listing ask ≡ true → ⊥
not_listing ListsAgain other is = other refl
not_listing ask other is = true≢false (sym is)

-- nothing is in its way
pub no_obstacle : {A : Type 0} (view : View) (dir : Text) (naming : Naming) (place : Place A) → is_mixed_in naming place ≡ false
    → ¬ (IsStuckIn view dir naming place) → (why : Obstacle) → IsObstacle view dir naming place why → ⊥
no_obstacle view dir naming place unmixed free MixedNames is = true≢false (sym is ∙ unmixed)
no_obstacle view dir naming place unmixed free NumbersUsedUp is = free is.1
no_obstacle view dir naming place unmixed free (Code code) is = is
no_obstacle view dir naming place unmixed free TooManyWatches is = is
no_obstacle view dir naming place unmixed free TooLarge is = is
no_obstacle view dir naming place unmixed free SessionClosed is = is

-- A node is to be deleted; or the least is the place.
module _ {A : Type 0} (dir : Text) (names : List Name) (front least : Name) (place : Option (Place A)) where
  pub found_surplus : (is_given_up : Bool) (name : Name) → IsSurplusOf names front least is_given_up name → place ≡ clearing dir name
      → IsFound dir names front least is_given_up place
  found_surplus true name is e = e ∙ ap (clearing dir) is
  found_surplus false name is e = inl (name, is.0, is.1, e)

  pub found_least : (is_given_up : Bool) → is_given_up ≡ false → list_any (is_surplus front least) names ≡ false
      → place ≡ found dir least → IsFound dir names front least is_given_up place
  found_least true stays none e = absurd (true≢false stays)
  found_least false stays none e = inr (none, e)

-- a path with no name waits for nobody
pub nobody_named : (is_mixed : Bool) (dir : Text) (kind : Kind) (most : ℕ) (names : List Name) (own : Text) (behind : List Text)
    → None ≡ name_of (path_of own) → behind ≡ [] → IsBehindWhere is_mixed dir kind most names own behind
nobody_named true dir kind most names own behind unnamed none = none
nobody_named false dir kind most names own behind unnamed none =
    subst (λ (o : Option Name). IsBehindOne dir kind most names o behind) unnamed none
