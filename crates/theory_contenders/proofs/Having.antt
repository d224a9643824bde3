-- A program has the token while its look-up says so: the listing of the first moment was true, so its node was first then; the node is
-- still there at the last moment, so it was there at each zxid between, and stayed first.
use Rattle.std.proofs.Common.{ℕ, ℤ, pos, negsuc, ◌≡◌, ◌≤◌, ◌≤ℤ◌, inl, inr, Bool, true, false, ◌||◌, List, [], ◌∷◌, ◌++◌, Some, refl}
use Rattle.std.proofs.Common.{sym, ap}
use Rattle.std.proofs.Common.{subst, ◌∙◌, arith, append_assoc}
use Rattle.std.proofs.lemmas.Int.{ints}
use Rattle.std.specs.List.{list_any}
use Rattle.zk_turns.specs.Meaning.{Among}
use Rattle.zk_turns.specs.Turns.{Start, Item}
use Rattle.zk_turns.specs.Past.{last_of}
use Rattle.zk_turns.specs.Taken.{past_of}
use Rattle.zk_turns.proofs.Over.{last_rises}
use Rattle.std.specs.Int.Signed.{≤ℤ_refl}
use Rattle.zk_nodes.specs.Path.{Text, Name, NodePath, path_of}
use Rattle.zk_nodes.specs.History.{History, IsHistory, tree_at}
use Rattle.zk_laws.specs.Messages.{from_zero}
use Rattle.theory_local.specs.LocalServed.{LocalEntry, Goes, Steps, Tells, Denies, Fails, ServedAt, IsServingAt, items_at}
use Rattle.theory_local.proofs.Following.{served_fewer}
use Rattle.zk_conclusions.specs.Seen.{Is, IsEither}
use Rattle.zk_conclusions.specs.Numbers.{Kind, is_numbered}
use Rattle.zk_conclusions.specs.Standings.{IsFirstIn, IsStanding, ListsAll, NumbersRise}
use Rattle.zk_conclusions.proofs.Listed.{listing_here}
use Rattle.zk_conclusions.proofs.Stands.{standing_here}
use Rattle.zk_conclusions.proofs.Stays.{first_stays, one_stands, tokens_rise}
use Rattle.zk_conclusions.proofs.Shown.{first_name}
use Rattle.zk_fence.proofs.Fencing.{fenced_from}
use Rattle.theory_contenders.specs.Programs.{Place, Moment, Run, SaysSo, IsMoment, AreMoments, SaysSince, IsHolding, HasToken}
use Rattle.theory_contenders.specs.Programs.{seen_by, session_of, HoldersHaveIt, OneHasIt, LaterTokensRise, EarlierAreShutOut}
use Rattle.theory_contenders.proofs.Coming.{stood_at}
use Rattle.theory_contenders.proofs.Counting.{sequences_rise}

-- ---- a beginning of what was served was served

rest_of : (x y : Item) (xs ys : List Item) → x ∷ xs ≡ y ∷ ys → xs ≡ ys
rest_of x y xs ys e = ap (λ (l : List Item). elim l [ [] ↦ xs | (z ∷ zs) ↦ zs ]) e

begins : (P : Text → Type 0) (h : History) (start : Start) (entries : List LocalEntry) (more items : List Item)
    → items_at entries ≡ more ++ items → IsServingAt P h start entries → ServedAt P h start items
begins P h start entries [] items e may = record { entries = entries; whole = e; may = may }
begins P h start [] (x ∷ more) items e may = absurd cc
begins P h start (Goes place item ∷ earlier) (x ∷ more) items e may =
    begins P h start earlier more items (rest_of item x (items_at earlier) (more ++ items) e) may.1
begins P h start (Steps step payloads ∷ earlier) (x ∷ more) items e may = begins P h start earlier (x ∷ more) items e may.1
begins P h start (Tells sent payloads ∷ earlier) (x ∷ more) items e may = begins P h start earlier (x ∷ more) items e may.1
begins P h start (Denies call payload ∷ earlier) (x ∷ more) items e may = begins P h start earlier (x ∷ more) items e may.1
begins P h start (Fails payload rest ∷ earlier) (x ∷ more) items e may = begins P h start earlier (x ∷ more) items e may.1

served_before : (P : Text → Type 0) (h : History) (start : Start) (more items later : List Item)
    → later ≡ more ++ items → ServedAt P h start later → ServedAt P h start items
served_before P h start more items later e s = begins P h start s.entries more items (s.whole ∙ e) s.may

-- ---- the moment from which it says so

-- it is a moment, it says so, and its client has gone on from there
record IsSince (start : Start) (dir : Text) (kind : Kind) (place : Place) (since last : Moment) : Type 0 where
  moment : IsMoment start dir kind since
  says : since.says ≡ Some place
  more : List Item
  goes : last.items ≡ more ++ since.items

is_since : (start : Start) (dir : Text) (kind : Kind) (place : Place) (since last : Moment) (earlier : List Moment)
    → AreMoments start dir kind (last ∷ earlier) → SaysSince (last ∷ earlier) place since → IsSince start dir kind place since last
is_since start dir kind place since last earlier are (says, inl same) =
    subst (λ (m : Moment). IsSince start dir kind place m last) same
    (record { moment = are.0; says = says; more = []; goes = refl })
is_since start dir kind place since last [] are (says, inr rest) = absurd rest
is_since start dir kind place since last (before ∷ earlier) are (says, inr rest) =
    let k = is_since start dir kind place since before earlier are.2 rest in
    record {
      moment = k.moment;
      says = k.says;
      more = are.1.0 ++ k.more;
      goes = are.1.1 ∙ (ap (λ (l : List Item). are.1.0 ++ l) k.goes ∙ sym (append_assoc are.1.0 k.more since.items));
    }

-- ---- zxids

below_it : (n : ℕ) (z : ℤ) → pos n ≤ℤ z → n ≤ from_zero z
below_it n (pos m) le = grind (arith, ints)
below_it n (negsuc m) le = absurd (grind (arith, ints))

kept_order : (y z : ℤ) → y ≤ℤ z → from_zero y ≤ from_zero z
kept_order (pos n) z le = below_it n z le
kept_order (negsuc n) z le = omega arith

le_through : (a b c : ℤ) → a ≤ℤ b → b ≤ℤ c → a ≤ℤ c
le_through a b c x y = grind (arith, ints)

-- the last seen zxid never falls
rises_by : (start : Start) (more items : List Item) → last_of start (past_of start items) ≤ℤ last_of start (past_of start (more ++ items))
rises_by start [] items = ≤ℤ_refl (last_of start (past_of start items))
rises_by start (item ∷ more) items =
    le_through (last_of start (past_of start items)) (last_of start (past_of start (more ++ items)))
    (last_of start (past_of start (item ∷ (more ++ items))))
    (rises_by start more items) (last_rises start item (more ++ items))

-- ---- what a moment shows is true

module _ (h : History) (start : Start) (dir : Text) (kind : Kind) (moment : Moment) (place : Place) (is : IsHistory h)
    (one : IsMoment start dir kind moment) (so : SaysSo start dir kind moment place)
    (served : ServedAt (IsEither dir place.path) h start moment.items) (rises : NumbersRise h (path_of dir) kind) where
  pub lists_all : ListsAll (tree_at h (from_zero so.listed)) (path_of dir) so.names
  lists_all = listing_here h moment.view dir (record {
    start = start;
    items = moment.items;
    stands = one.stands;
    history = is;
    served = served_fewer (IsEither dir place.path) (Is dir) (λ path e. inl e) h start moment.items served;
  }) so.ticket so.watch so.listed so.names so.stat so.answered

  pub first_then : IsFirstIn (tree_at h (from_zero so.listed)) (path_of dir) kind so.shows.own
  first_then name there rival = so.shows.first name (lists_all name there) rival

  pub stands_then : IsStanding (tree_at h (seen_by moment)) (path_of dir) kind (path_of place.path) (session_of moment) place.token
  stands_then = standing_here h moment.view dir kind so.names so.listed place.path place.token (record {
    start = start;
    items = moment.items;
    stands = one.stands;
    history = is;
    served = served_fewer (IsEither dir place.path) (Is place.path) (λ path e. inr e) h start moment.items served;
  }) rises lists_all so.shows

-- ---- between two moments

-- who stood first at a listing, and stands first later, stands first at each zxid between
between : (h : History) (dir : NodePath) (kind : Kind) (path : NodePath) (session token : ℤ) (own : Name) (listed zxid high : ℕ)
    → IsHistory h → NumbersRise h dir kind → path ≡ own ∷ dir → IsFirstIn (tree_at h listed) dir kind own
    → (s : IsStanding (tree_at h high) dir kind path session token) → s.node.czxid ≤ listed → listed ≤ zxid → zxid ≤ high
    → IsStanding (tree_at h zxid) dir kind path session token
between h dir kind path session token own listed zxid high is rises place first s made low le =
    let same : own ≡ s.own = first_name dir path own s.own place s.below in
    let was = stood_at h path zxid high s.node is le (omega (arith, made, low)) s.there in
    let there : tree_at h zxid (s.own ∷ dir) ≡ Some was.0 = subst (λ (p : NodePath). tree_at h zxid p ≡ Some was.0) s.below was.1 in
    let old : was.0.czxid ≡ s.node.czxid = was.2 in
    record {
      own = s.own;
      below = s.below;
      numbered = s.numbered;
      node = was.0;
      there = was.1;
      owner = was.3 ∙ s.owner;
      owned = s.owned;
      made = ap pos old ∙ s.made;
      first = first_stays h dir kind s.own was.0 listed zxid is rises low s.numbered
          (subst (λ (n : Name). IsFirstIn (tree_at h listed) dir kind n) same first) there (omega (arith, old, made));
    }

-- what is known of a run that is holding
module _ (h : History) (run : Run) (place : Place) (since last : Moment) (holding : IsHolding h run place since last) where
  are : AreMoments run.start run.dir run.kind (last ∷ holding.earlier)
  are = subst (λ (l : List Moment). AreMoments run.start run.dir run.kind l) holding.newest holding.moments

  says_since : SaysSince (last ∷ holding.earlier) place since
  says_since = subst (λ (l : List Moment). SaysSince l place since) holding.newest holding.says

  rises : NumbersRise h (path_of run.dir) run.kind
  rises = sequences_rise h (path_of run.dir) run.kind holding.history holding.sequence

  pub in_order : seen_by since ≤ seen_by last
  in_order =
      let k = is_since run.start run.dir run.kind place since last holding.earlier are says_since in
      let went = rises_by run.start k.more since.items in
      let then : since.view.saved.last ≡ last_of run.start (past_of run.start since.items) = ap (λ v. v.last) k.moment.stands.saved in
      let now : last.view.saved.last ≡ last_of run.start (past_of run.start last.items) = ap (λ v. v.last) are.0.stands.saved in
      let end : last.view.saved.last ≡ last_of run.start (past_of run.start (k.more ++ since.items)) =
      now ∙ ap (λ (l : List Item). last_of run.start (past_of run.start l)) k.goes in
      kept_order since.view.saved.last last.view.saved.last
      (subst (λ (z : ℤ). z ≤ℤ last.view.saved.last) (sym then)
      (subst (λ (z : ℤ). last_of run.start (past_of run.start since.items) ≤ℤ z) (sym end) went))

  pub has_token : HasToken h (path_of run.dir) run.kind (path_of place.path) (session_of last) place.token (seen_by since) (seen_by last)
  has_token zxid low high =
      let k = is_since run.start run.dir run.kind place since last holding.earlier are says_since in
      let so = k.moment.says place k.says in
      let served = served_before (IsEither run.dir place.path) h run.start k.more since.items last.items k.goes holding.served in
      let s = stands_then h run.start run.dir run.kind last place holding.history are.0 (are.0.says place says_since.0) holding.served
      rises in
      let first = first_then h run.start run.dir run.kind since place holding.history k.moment so served rises in
      let made : pos s.node.czxid ≤ℤ so.listed = subst (λ (z : ℤ). z ≤ℤ so.listed) (sym s.made) so.shows.after in
      let listed : from_zero so.listed ≤ seen_by since = kept_order so.listed since.view.saved.last so.shows.seen in
      between h (path_of run.dir) run.kind (path_of place.path) (session_of last) place.token so.shows.own (from_zero so.listed) zxid
      (seen_by last) holding.history rises so.shows.below first s (below_it s.node.czxid so.listed made) (omega (arith, listed, low)) high

pub holders_have_it : HoldersHaveIt
holders_have_it h run place since last holding =
    (has_token h run place since last holding, in_order h run place since last holding)

-- ---- two programs

or_right : (a b : Bool) → b ≡ true → (a || b) ≡ true
or_right true b e = refl
or_right false b e = e

-- a name with a marker that is waited for is a rival's
waited_for : (marker : Name) (markers : List Name) (name : Name) → Among marker markers → is_numbered marker name ≡ true
    → list_any (λ m. is_numbered m name) markers ≡ true
waited_for marker [] name among e = absurd among
waited_for marker (m ∷ markers) name (inl same) e =
    let k : is_numbered m name ≡ true = subst (λ (n : Name). is_numbered n name ≡ true) same e in rw k refl
waited_for marker (m ∷ markers) name (inr among) e =
    or_right (is_numbered m name) (list_any (λ n. is_numbered n name) markers) (waited_for marker markers name among e)

pub one_has_it : OneHasIt
one_has_it h one other place its since last from upto zxid mine theirs rivals a b c d =
    let m = has_token h one place since last mine zxid a b in
    let y' = has_token h other its from upto theirs zxid c d in
    let y : IsStanding (tree_at h zxid) (path_of one.dir) other.kind (path_of its.path) (session_of upto) its.token =
    subst (λ (p : NodePath). IsStanding (tree_at h zxid) p other.kind (path_of its.path) (session_of upto) its.token)
    (sym rivals.same) y' in
    one_stands (tree_at h zxid) (path_of one.dir) one.kind other.kind (path_of place.path) (path_of its.path) (session_of last)
    (session_of upto) place.token its.token m y
    (waited_for other.kind.own one.kind.against y.own rivals.waits y.numbered)
    (waited_for one.kind.own other.kind.against m.own rivals.back m.numbered)

pub later_tokens_rise : LaterTokensRise
later_tokens_rise h one other place its since last from upto mine theirs rivals le =
    let m = has_token h one place since last mine (seen_by since) (omega arith) (in_order h one place since last mine) in
    let y' = has_token h other its from upto theirs (seen_by upto) (in_order h other its from upto theirs) (omega arith) in
    let y : IsStanding (tree_at h (seen_by upto)) (path_of one.dir) other.kind (path_of its.path) (session_of upto) its.token =
    subst (λ (p : NodePath). IsStanding (tree_at h (seen_by upto)) p other.kind (path_of its.path) (session_of upto) its.token)
    (sym rivals.same) y' in
    tokens_rise h (path_of one.dir) one.kind other.kind (path_of place.path) (path_of its.path) (session_of last) (session_of upto)
    place.token its.token (seen_by since) (seen_by upto) mine.history (rises h one place since last mine) le m y
    (waited_for other.kind.own one.kind.against y.own rivals.waits y.numbered)

pub earlier_are_shut_out : EarlierAreShutOut
earlier_are_shut_out h one other place its since last from upto mine theirs rivals le =
    fenced_from place.token its.token (later_tokens_rise h one other place its since last from upto mine theirs rivals le)
