-- Which nodes may be there, by where the place of a contender is, and how it stays so through answers.
use Rattle.std.proofs.Common.{ℤ, ◌≡◌, inl, inr, ◌&&◌, ◌||◌, Bool, true, false, not, List, [], ◌∷◌, Option, Some, None, option_map}
use Rattle.std.proofs.Common.{if◌then◌else◌, refl, sym, ap, subst, ◌∙◌, true≢false}
use Rattle.std.specs.List.{list_any}
use Rattle.std.specs.Prelude.{⊤, bytes_eq}
use Rattle.std.specs.Ordering.{int_eq}
use Rattle.std.proofs.lemmas.Bool.Decides.{Decides-int_eq}
use Rattle.zk_nodes.specs.Path.{Text, Name, parent_text}
use Rattle.zk_nodes.specs.PathFault.{fault_of}
use Rattle.zk_nodes.specs.declared.path_fault.PathFault.{PathFault}
use Rattle.zk_conversation.specs.Results.{Result, NoNode, Refused, Made, Read, Listing, Done, Brought}
use Rattle.zk_turns.specs.Turns.{Outcome, Replied, ConnectionLoss}
use Rattle.zk_turns.specs.Meaning.{Among}
use Rattle.zk_laws.proofs.Basics.{text_eq-true}
use Rattle.zk_conclusions.specs.Tags.{has_tag}
use Rattle.zk_contend.specs.declared.listed.Listed.{Listed}
use Rattle.zk_contend.specs.declared.place.Place.{Place}
use Rattle.zk_contend.specs.declared.place.Place.TheVariants.{Making, Entering, Unsure, Looking, Clearing, At, Leaving, Left}
use Rattle.zk_contend.specs.Hearing.{entered, entering, made, named_if, placed_as, is_place, unentered, unsent}
use Rattle.zk_contend.specs.Nodes.{Nodes, AreNone, AreFewer, AreFewerBut, AreFewerWithout, Creates, Deletes, IsNamed, Lists, Reads}
use Rattle.zk_contend.specs.Places.{path_in}
use Rattle.zk_contend.specs.Settling.{cleared, fenced, found_at, is_surplus, left_by, moved, own_read, IsLooked, IsSettled}

-- each node that is there is this one
abbrev pub IsOnly : Text → Nodes → Type 0
IsOnly own nodes = (path : Text) → nodes path ≡ true → path ≡ own

-- THE nodes that may be there
abbrev pub Covers : {A : Type 0} → Nodes → Place A → Type 0
Covers nodes (Making path) = AreNone nodes
Covers nodes Entering = AreNone nodes
Covers nodes (At own listing) = IsOnly own nodes
Covers nodes (Leaving own) = IsOnly own nodes
Covers nodes Left = AreNone nodes
Covers nodes _ = ⊤

none_still : (old new : Nodes) → AreFewer old new → AreNone old → AreNone new
none_still old new fewer none path there = none path (fewer path there)

only_still : (old new : Nodes) (own : Text) → AreFewer old new → IsOnly own old → IsOnly own new
only_still old new own fewer only path there = only path (fewer path there)

-- others may have deleted some
pub covers_fewer : {A : Type 0} (place : Place A) (old new : Nodes) → AreFewer old new → Covers old place → Covers new place
covers_fewer (Making path) old new fewer covers = none_still old new fewer covers
covers_fewer Entering old new fewer covers = none_still old new fewer covers
covers_fewer Unsure old new fewer covers = tt
covers_fewer (Looking answered) old new fewer covers = tt
covers_fewer (Clearing leaving) old new fewer covers = tt
covers_fewer (At own listing) old new fewer covers = only_still old new own fewer covers
covers_fewer (Leaving own) old new fewer covers = only_still old new own fewer covers
covers_fewer Left old new fewer covers = none_still old new fewer covers

-- ---- creates

after_made_covers : {A : Type 0} (nodes : Nodes) (dir : Text) (same : Bool) (place : Place A)
    → AreNone nodes → Covers nodes (moved place (Some (if same then Entering else Making dir)))
after_made_covers nodes dir true place none = none
after_made_covers nodes dir false place none = none

above_covers : (A : Type 0) (nodes : Nodes) (path : Text) (parent : Option Text)
    → AreNone nodes → Covers {A = A} nodes (moved (Making path) (option_map Making parent))
above_covers A nodes path None none = none
above_covers A nodes path (Some parent) none = none

exists_covers : (A : Type 0) (nodes : Nodes) (dir path : Text) (exists same : Bool) → AreNone nodes
    → Covers {A = A} nodes (moved (Making path) (if exists then Some (if same then Entering else Making dir) else None))
exists_covers A nodes dir path true same none = after_made_covers nodes dir same (Making path) none
exists_covers A nodes dir path false same none = none

pub made_covers : (A : Type 0) (nodes : Nodes) (dir path : Text) (outcome : Outcome)
    → AreNone nodes → Covers {A = A} nodes (moved (Making path) (made dir path outcome))
made_covers A nodes dir path (Replied zxid (Made at)) none = after_made_covers nodes dir (bytes_eq path dir) (Making path) none
made_covers A nodes dir path (Replied zxid (Brought bytes)) none = after_made_covers nodes dir (bytes_eq path dir) (Making path) none
made_covers A nodes dir path (Replied zxid NoNode) none = above_covers _ nodes path (parent_text path) none
made_covers A nodes dir path (Replied zxid (Refused code)) none =
    exists_covers _ nodes dir path (int_eq code (ℤ.negsuc 109)) (bytes_eq path dir) none
made_covers A nodes dir path (Replied zxid _) none = none
made_covers A nodes dir path _ none = none

only_made : (old new : Nodes) (text : Text) → AreNone old → AreFewerBut text old new → IsOnly text new
only_made old new text none more path there = elim (more path there) [ inl e ↦ e | inr was ↦ absurd (none path was) ]

named_covers : (A : Type 0) (nodes : Nodes) (text : Text) (is_given_up : Bool) (fault : Option PathFault) (is : Bool) → IsOnly text nodes
    → Covers {A = A} nodes (placed_as is_given_up (named_if is text fault))
named_covers A nodes text is_given_up (Some why) is only = tt
named_covers A nodes text is_given_up None false only = tt
named_covers A nodes text true None true only = only
named_covers A nodes text false None true only = only

unentered_covers : (A : Type 0) (nodes : Nodes) (dir : Text) (is_given_up : Bool) (result : Result)
    → AreNone nodes → Covers {A = A} nodes (moved Entering (unentered dir is_given_up result))
unentered_covers A nodes dir true result none = none
unentered_covers A nodes dir false NoNode none = none
unentered_covers A nodes dir false _ none = none

unsent_covers : (A : Type 0) (nodes : Nodes) (is_given_up : Bool) → AreNone nodes
    → Covers {A = A} nodes (moved Entering (unsent is_given_up))
unsent_covers A nodes true none = none
unsent_covers A nodes false none = none

pub entered_covers : (A : Type 0) (old new : Nodes) (dir : Text) (front : Name) (is_given_up : Bool) (outcome : Outcome)
    → AreNone old → Creates outcome old new → Covers {A = A} new (moved Entering (entered dir front is_given_up outcome))
entered_covers A old new dir front is_given_up (Replied zxid (Made text)) none creates =
    named_covers _ new text is_given_up (fault_of text) (is_place dir front text) (only_made old new text none creates)
entered_covers A old new dir front is_given_up (Replied zxid NoNode) none creates =
    unentered_covers _ new dir is_given_up NoNode (none_still old new creates none)
entered_covers A old new dir front is_given_up (Replied zxid (Refused code)) none creates =
    unentered_covers _ new dir is_given_up (Refused code) (none_still old new creates none)
entered_covers A old new dir front is_given_up (Replied zxid _) none creates = tt
entered_covers A old new dir front is_given_up ConnectionLoss none creates = tt
entered_covers A old new dir front is_given_up _ none creates = unsent_covers _ new is_given_up (none_still old new creates none)

-- ---- looking

entering_covers : (A : Type 0) (nodes : Nodes) (is_given_up : Bool) → AreNone nodes → Covers {A = A} nodes (entering is_given_up)
entering_covers A nodes true none = none
entering_covers A nodes false none = none

clearing_covers : (A : Type 0) (nodes : Nodes) (answered : ℤ) (path : Option Text)
    → Covers {A = A} nodes (moved (Looking answered) (option_map Clearing path))
clearing_covers A nodes answered None = tt
clearing_covers A nodes answered (Some path) = tt

either_fails : (a b : Bool) → (a || b) ≡ false → (a ≡ false) × (b ≡ false)
either_fails true b e = absurd cc
either_fails false b e = (refl, e)

none_among : (test : Name → Bool) (names : List Name) (name : Name) → list_any test names ≡ false → Among name names → test name ≡ false
none_among test [] name none there = absurd there
none_among test (one ∷ more) name none (inl e) =
    subst (λ (n : Name). test n ≡ false) (sym e) (either_fails (test one) (list_any test more) none).0
none_among test (one ∷ more) name none (inr there) =
    none_among test more name (either_fails (test one) (list_any test more) none).1 there

both_fail : (tagged same : Bool) → tagged ≡ true → (tagged && not same) ≡ false → same ≡ true
both_fail true true is fails = refl
both_fail true false is fails = absurd cc
both_fail false same is fails = absurd cc

some_same : (one other : Text) → Some one ≡ Some other → one ≡ other
some_same one other e = cc

-- where no name is too many, each node that is there has the least
only_least : (dir : Text) (front least : Name) (names : List Name) (own path : Text) → list_any (is_surplus front least) names ≡ false
    → path_in dir least ≡ Some own → IsNamed dir front names path → path ≡ own
only_least dir front least names own path none is named =
    let same : named.name ≡ least = text_eq-true named.name least
    (both_fail (has_tag front named.name) (bytes_eq named.name least) named.tagged
    (none_among (is_surplus front least) names named.name none named.among)) in
    some_same path own (sym named.is ∙ ap (path_in dir) same ∙ is)

found_covers : (A : Type 0) (old new : Nodes) (dir : Text) (front least : Name) (names : List Name) (answered : ℤ) (own : Option Text)
    → path_in dir least ≡ own → list_any (is_surplus front least) names ≡ false
    → ((path : Text) → old path ≡ true → IsNamed dir front names path) → AreFewer old new
    → Covers {A = A} new (moved (Looking answered) (option_map found_at own))
found_covers A old new dir front least names answered None is none lists fewer = tt
found_covers A old new dir front least names answered (Some own) is none lists fewer =
    λ path there. only_least dir front least names own path none is (lists path (fewer path there))

none_listed : (old new : Nodes) (dir : Text) (front : Name) (names : List Name)
    → ((name : Name) → Among name names → has_tag front name ≡ false)
    → ((path : Text) → old path ≡ true → IsNamed dir front names path) → AreFewer old new → AreNone new
none_listed old new dir front names none lists fewer path there =
    let named = lists path (fewer path there) in
    absurd (true≢false (sym named.tagged ∙ none named.name named.among))

settled_covers : {A : Type 0} (old new : Nodes) (dir : Text) (front : Name) (is_given_up : Bool) (answered zxid : ℤ) (names : List Name)
    (next : Option (Place A)) → IsSettled dir front is_given_up answered names zxid next
    → ((path : Text) → old path ≡ true → IsNamed dir front names path) → AreFewer old new → Covers new (moved (Looking answered) next)
settled_covers {A} old new dir front is_given_up answered zxid names next (inl early) lists fewer =
    subst (λ (n : Option (Place A)). Covers new (moved (Looking answered) n)) (sym early.1) tt
settled_covers {A} old new dir front is_given_up answered zxid names next (inr (inl none)) lists fewer =
    subst (λ (n : Option (Place A)). Covers new (moved (Looking answered) n)) (sym none.1)
    (entering_covers _ new is_given_up (none_listed old new dir front names none.0 lists fewer))
settled_covers {A} old new dir front true answered zxid names next (inr (inr (least, is, found))) lists fewer =
    subst (λ (n : Option (Place A)). Covers new (moved (Looking answered) n)) (sym found)
    (clearing_covers _ new answered (path_in dir least))
settled_covers {A} old new dir front false answered zxid names next (inr (inr (least, is, inl (name, among, surplus, found)))) lists fewer =
    subst (λ (n : Option (Place A)). Covers new (moved (Looking answered) n)) (sym found)
    (clearing_covers _ new answered (path_in dir name))
settled_covers {A} old new dir front false answered zxid names next (inr (inr (least, is, inr (none, found)))) lists fewer =
    subst (λ (n : Option (Place A)). Covers new (moved (Looking answered) n)) (sym found)
    (found_covers _ old new dir front least names answered (path_in dir least) refl none lists fewer)

looking_still : {A : Type 0} (nodes : Nodes) (answered : ℤ) (next : Option (Place A)) → next ≡ None
    → Covers nodes (moved (Looking answered) next)
looking_still {A} nodes answered next e = subst (λ (n : Option (Place A)). Covers nodes (moved (Looking answered) n)) (sym e) tt

pub looked_covers : {A : Type 0} (old new : Nodes) (dir : Text) (front : Name) (is_given_up : Bool) (answered : ℤ) (outcome : Outcome)
    (next : Option (Place A)) → IsLooked dir front is_given_up answered outcome next → Lists dir front outcome old new
    → Covers new (moved (Looking answered) next)
looked_covers old new dir front is_given_up answered (Replied zxid (Listing names stat)) next looked lists =
    settled_covers old new dir front is_given_up answered zxid names next looked lists.0 lists.1
looked_covers {A} old new dir front is_given_up answered (Replied zxid NoNode) next looked lists =
    subst (λ (n : Option (Place A)). Covers new (moved (Looking answered) n)) (sym looked)
    (entering_covers _ new is_given_up (none_still old new lists.1 lists.0))
looked_covers old new dir front is_given_up answered (Replied zxid _) next looked lists = looking_still new answered next looked
looked_covers old new dir front is_given_up answered _ next looked lists = looking_still new answered next looked

-- ---- other answers

pub fenced_covers : (A : Type 0) (nodes : Nodes) (outcome : Outcome) → Covers {A = A} nodes (moved Unsure (fenced outcome))
fenced_covers A nodes (Replied zxid result) = tt
fenced_covers A nodes _ = tt

pub cleared_covers : (A : Type 0) (nodes : Nodes) (leaving : Text) (outcome : Outcome)
    → Covers {A = A} nodes (moved (Clearing leaving) (cleared outcome))
cleared_covers A nodes leaving (Replied zxid Done) = tt
cleared_covers A nodes leaving (Replied zxid NoNode) = tt
cleared_covers A nodes leaving (Replied zxid _) = tt
cleared_covers A nodes leaving _ = tt

none_without : (old new : Nodes) (own : Text) → IsOnly own old → AreFewerWithout own old new → AreNone new
none_without old new own only less path there =
    let same : path ≡ own = only path (less.fewer path there) in
    absurd (true≢false (sym there ∙ ap new same ∙ less.gone))

pub left_covers : (A : Type 0) (old new : Nodes) (own : Text) (outcome : Outcome)
    → IsOnly own old → Deletes own outcome old new → Covers {A = A} new (moved (Leaving own) (left_by outcome))
left_covers A old new own (Replied zxid Done) only deletes = none_without old new own only deletes
left_covers A old new own (Replied zxid NoNode) only deletes = none_without old new own only deletes
left_covers A old new own (Replied zxid _) only deletes = only_still old new own deletes only
left_covers A old new own _ only deletes = only_still old new own deletes only

none_of : (old new : Nodes) (own : Text) → IsOnly own old → old own ≡ false → AreFewer old new → AreNone new
none_of old new own only gone fewer path there =
    let same : path ≡ own = only path (fewer path there) in
    absurd (true≢false (sym (fewer path there) ∙ ap old same ∙ gone))

owner_covers : {A : Type 0} (old new : Nodes) (own : Text) (listing : Option (Listed A)) (owner session : ℤ) (same : Bool)
    → same ≡ int_eq owner session → IsOnly own old → (old own ≡ true → owner ≡ session) → AreFewer old new
    → Covers new (moved (At own listing) (if not same then Some Entering else None))
owner_covers old new own listing owner session true is only owned fewer = only_still old new own fewer only
owner_covers old new own listing owner session false is only owned fewer =
    λ path there. let same : path ≡ own = only path (fewer path there) in
    absurd (true≢false (sym ((Decides-int_eq owner session).1 (owned (ap old (sym same) ∙ fewer path there))) ∙ sym is))

pub own_covers : {A : Type 0} (old new : Nodes) (own : Text) (listing : Option (Listed A)) (session : ℤ) (outcome : Outcome)
    → IsOnly own old → Reads session own outcome old new → Covers new (moved (At own listing) (own_read session outcome))
own_covers old new own listing session (Replied zxid (Read bytes stat)) only reads =
    owner_covers old new own listing stat.ephemeral_owner session (int_eq stat.ephemeral_owner session) refl only reads.0 reads.1
own_covers old new own listing session (Replied zxid NoNode) only reads = none_of old new own only reads.0 reads.1
own_covers old new own listing session (Replied zxid _) only reads = only_still old new own reads only
own_covers old new own listing session _ only reads = only_still old new own reads only
