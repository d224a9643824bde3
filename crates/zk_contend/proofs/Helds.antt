-- A contender that holds does so in the history: its listing is true, and so is what is shown of its place.
use Rattle.std.proofs.Common.{ℕ, zero, suc, ℤ, ◌≡◌, ◌∙◌, true, false, List, inl, inr, map, sym, subst}
use Rattle.std.specs.List.{list_any}
use Rattle.std.proofs.lemmas.List.Folds.{list_any-append}
use Rattle.zk_nodes.specs.Path.{Text, Name, NodePath, path_of}
use Rattle.zk_nodes.specs.History.{Tree}
use Rattle.zk_turns.specs.Meaning.{Among}
use Rattle.zk_turns.specs.View.{View}
use Rattle.zk_conclusions.specs.Numbers.{Kind, is_numbered, is_rival}
use Rattle.zk_conclusions.specs.Seen.{Is, IsEither, IsServedAt, tree_seen}
use Rattle.theory_local.proofs.Following.{served_fewer}
use Rattle.zk_conclusions.proofs.Listed.{listing_here}
use Rattle.zk_contend.specs.declared.naming.Naming.{Naming}
use Rattle.zk_contend.specs.declared.place.Place.{Place}
use Rattle.zk_contend.specs.Namings.{against_in, is_foreign, is_mixed, kind_in, kind_of_all, most_in, others_in, with_minus}
use Rattle.zk_contend.specs.Leases.{AreBefore, IsLease, ShowsLease, StandsBy}
use Rattle.zk_contend.specs.Standings.{HeldIsTrue, HoldsIn, IsHolding}
use Rattle.zk_contend.proofs.Leasing.{lease_here, one_is_first}
use Rattle.zk_contend.proofs.Families.{left_none, left_one, none_of}

-- where one may hold at once, it is the first
holding : (tree : Tree) (dir : NodePath) (kind : Kind) (most : ℕ) (path : NodePath) (session token : ℤ)
    → IsLease tree dir kind most path session token → IsHolding tree dir kind most path session token
holding tree dir kind zero path session token lease = lease
holding tree dir kind (suc zero) path session token lease = one_is_first.1 tree dir kind path session token lease
holding tree dir kind (suc (suc most)) path session token lease = lease

-- ---- beside all families

-- A rival of any family is one of this family, if it is of no other.
own_rival : (naming : Naming) (name : Name) → is_rival (kind_of_all naming) name ≡ true → is_foreign naming name ≡ false
    → is_rival (kind_in naming) name ≡ true
own_rival naming name rival none =
    let own : List Name = against_in naming in
    let others : List Name = others_in naming in
    left_one (list_any (λ marker. is_numbered marker name) own) (list_any (λ marker. is_numbered marker name) others)
    (sym (list_any-append (λ marker. is_numbered marker name) own others) ∙ rival)
    (left_none (list_any (λ marker. is_numbered marker name) others) (list_any (λ marker. is_numbered marker name) (map with_minus others))
    (sym (list_any-append (λ marker. is_numbered marker name) others (map with_minus others)) ∙ none))

own_before : (naming : Naming) (names : List Name) → is_mixed naming names ≡ false → (own : Name) (count : ℕ)
    → AreBefore (λ name. Among name names) (kind_of_all naming) own count → AreBefore (λ name. Among name names) (kind_in naming) own count
own_before naming names none own zero are = tt
own_before naming names none own (suc count) are = (
  are.0,
  are.1,
  own_rival naming are.0 are.2 (none_of (is_foreign naming) names are.0 none are.1),
  are.3,
  own_before naming names none are.0 count are.4,
)

stands_by_all : (view : View) (dir : Text) (naming : Naming) (names : List Name) (listed : ℤ) (path : Text) (token : ℤ)
    → StandsBy view dir naming names listed path token
    → ShowsLease view dir (kind_of_all naming) (most_in naming) names listed path token
stands_by_all view dir naming names listed path token stands =
    let shows = stands.shows in
    record {
      own = shows.own;
      below = shows.below;
      numbered = shows.numbered;
      answer = shows.answer;
      nodes = shows.nodes;
      made = shows.made;
      among = λ are. shows.among (own_before naming names stands.unmixed shows.own (most_in naming) are);
      after = shows.after;
      seen = shows.seen;
    }

pub held_here : {A : Type 0} → HeldIsTrue A
held_here {A} h view contender own listed token seen is heard rises shows =
    let there : IsServedAt (Is own) h view = record {
      start = seen.start;
      items = seen.items;
      stands = seen.stands;
      history = seen.history;
      served = served_fewer (IsEither contender.directory own) (Is own) (λ path e. inr e) h seen.start seen.items seen.served;
    } in
    let listing : IsServedAt (Is contender.directory) h view = record {
      start = seen.start;
      items = seen.items;
      stands = seen.stands;
      history = seen.history;
      served = served_fewer (IsEither contender.directory own) (Is contender.directory) (λ path e. inl e) h seen.start seen.items
          seen.served;
    } in
    let stands : StandsBy view contender.directory contender.naming listed.names listed.zxid own token =
    subst (λ (place : Place A). HoldsIn view contender place token) is shows in
    let all = listing_here h view contender.directory listing heard.0 heard.1 listed.zxid listed.names heard.2 heard.3 in (
      holding (tree_seen h view) (path_of contender.directory) (kind_of_all contender.naming) (most_in contender.naming) (path_of own)
          view.saved.session.session token
          (lease_here h view contender.directory (kind_of_all contender.naming) (most_in contender.naming) listed.names listed.zxid own
          token there rises all
          (stands_by_all view contender.directory contender.naming listed.names listed.zxid own token stands)),
      λ name found. none_of (is_foreign contender.naming) listed.names name stands.unmixed (all name found),
    )
