-- Who is shown to stand first does so in the history: what is shown is true of the tree at the last seen zxid, and so is what follows of
-- it.
use Rattle.std.proofs.Common.{ℕ, ℤ, pos, negsuc, ◌≡◌, ◌≤◌, ◌≤ℤ◌, ◌∷◌, Some, refl, sym, subst, true, arith}
use Rattle.std.proofs.lemmas.Int.{ints}
use Rattle.zk_nodes.specs.Path.{Text, Name, NodePath, path_of}
use Rattle.zk_nodes.specs.History.{Tree, History, tree_at}
use Rattle.zk_turns.specs.View.{View}
use Rattle.zk_laws.specs.Messages.{from_zero}
use Rattle.zk_conclusions.specs.Seen.{Is, tree_seen}
use Rattle.zk_conclusions.proofs.Truths.{data_fits}
use Rattle.zk_conclusions.proofs.Holding.{node_of}
use Rattle.zk_conclusions.proofs.Shown.{first_name}
use Rattle.zk_conclusions.specs.Numbers.{Kind, is_rival}
use Rattle.zk_conclusions.specs.Standings.{IsStanding, StandingIsTrue, IsShownStanding, OneShowsStanding, LaterStandings}
use Rattle.zk_conclusions.proofs.Stays.{first_stays, one_stands, tokens_rise}

-- zxids as numbers from 0 on
below_it : (n : ℕ) (z : ℤ) → pos n ≤ℤ z → n ≤ from_zero z
below_it n (pos m) le = grind (arith, ints)
below_it n (negsuc m) le = absurd (grind (arith, ints))

kept_order : (y z : ℤ) → y ≤ℤ z → from_zero y ≤ from_zero z
kept_order (pos n) z le = below_it n z le
kept_order (negsuc n) z le = omega arith

pub standing_here : StandingIsTrue
standing_here h view dir kind names listed path token seen rises all shows =
    let tree : Tree = tree_seen h view in
    let found = node_of view.saved.session.session token shows.answer (tree (path_of path)) shows.made
    (data_fits (Is path) h view path shows.answer seen refl shows.nodes) in
    let there : tree (shows.own ∷ path_of dir) ≡ Some found.0 = subst (λ (p : NodePath). tree p ≡ Some found.0) shows.below found.1 in
    let early : pos found.0.czxid ≤ℤ listed = subst (λ (z : ℤ). z ≤ℤ listed) (sym found.2.made) shows.after in
    record {
      own = shows.own;
      below = shows.below;
      numbered = shows.numbered;
      node = found.0;
      there = found.1;
      owner = found.2.owner;
      owned = found.2.owned;
      made = found.2.made;
      first = first_stays h (path_of dir) kind shows.own found.0 (from_zero listed) (from_zero view.saved.last) seen.history rises
          (kept_order listed view.saved.last shows.seen) shows.numbered
          (λ name is rival. shows.first name (all name is) rival) there (below_it found.0.czxid listed early);
    }

-- who is shown to stand first does so in the tree at the last seen zxid
stands_there : (h : History) (view : View) (dir : Text) (kind : Kind) (path : Text) (token : ℤ)
    → (m : IsShownStanding h view dir kind path token)
    → IsStanding (tree_seen h view) (path_of dir) kind (path_of path) view.saved.session.session token
stands_there h view dir kind path token m = standing_here h view dir kind m.names m.listed path token m.seen m.rises m.all m.shows

-- its name is the one that is shown
own_is : (h : History) (view : View) (dir : Text) (kind : Kind) (path : Text) (session token : ℤ) (tree : Tree)
    → (m : IsShownStanding h view dir kind path token)
    → (s : IsStanding tree (path_of dir) kind (path_of path) session token) → m.shows.own ≡ s.own
own_is h view dir kind path session token tree m s = first_name (path_of dir) (path_of path) m.shows.own s.own m.shows.below s.below

-- a rival by the name that is shown
rival_is : (h : History) (view : View) (dir : Text) (kind its : Kind) (path : Text) (session token : ℤ) (tree : Tree)
    → (m : IsShownStanding h view dir kind path token)
    → (s : IsStanding tree (path_of dir) kind (path_of path) session token) → is_rival its m.shows.own ≡ true → is_rival its s.own ≡ true
rival_is h view dir kind its path session token tree m s rival =
    subst (λ (n : Name). is_rival its n ≡ true) (own_is h view dir kind path session token tree m s) rival

pub one_shows_standing : OneShowsStanding
one_shows_standing h one other dir kind its path its_path token later m y at rival back =
    let tree : Tree = tree_seen h one in
    let mine : IsStanding tree (path_of dir) kind (path_of path) one.saved.session.session token =
    stands_there h one dir kind path token m in
    let yours : IsStanding tree (path_of dir) its (path_of its_path) other.saved.session.session later =
    subst (λ (z : ℤ). IsStanding (tree_at h (from_zero z)) (path_of dir) its (path_of its_path) other.saved.session.session later) (sym at)
    (stands_there h other dir its its_path later y) in
    one_stands tree (path_of dir) kind its (path_of path)
    (path_of its_path) one.saved.session.session other.saved.session.session token later mine yours
    (rival_is h other dir its kind its_path other.saved.session.session later tree y yours rival)
    (rival_is h one dir kind its path one.saved.session.session token tree m mine back)

pub later_standings : LaterStandings
later_standings h one other dir kind its path its_path token later m y le rival =
    let yours : IsStanding (tree_seen h other) (path_of dir) its (path_of its_path) other.saved.session.session later =
    stands_there h other dir its its_path later y in
    tokens_rise h (path_of dir) kind its (path_of path) (path_of its_path) one.saved.session.session other.saved.session.session token later
    (from_zero one.saved.last) (from_zero other.saved.last)
    m.seen.history m.rises le (stands_there h one dir kind path token m) yours
    (rival_is h other dir its kind its_path other.saved.session.session later (tree_seen h other) y yours rival)
