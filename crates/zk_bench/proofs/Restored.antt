-- What is told and watched where watches are set anew: list by list and path by path of the part, each path is told about or watched again.
use Rattle.std.proofs.Common.{ℕ, zero, suc, ℤ, pos, negsuc, ◌≡◌, ◌<◌, ◌≤◌, ◌+◌, Bool, true, false, not, ◌&&◌, ◌||◌, List, [], ◌∷◌, ◌++◌}
use Rattle.std.proofs.Common.{refl, ap, sym, ◌∙◌, subst, arith, map, append_assoc, length, take, inl, inr, ◌⊎◌, Option, Some, None}
use Rattle.std.proofs.lemmas.List.{append-nil}
use mathlib.Core.Path.{fun_ext}
use Rattle.std.specs.Prelude.{is_some, option_map}
use Rattle.std.specs.List.{flat_map, list_any, AllByRecursion}
use Rattle.std.specs.FinSet as set
use Rattle.std.proofs.Math.ListN.{get_or}
use Rattle.zk_jute.specs.Layout.{Value}
use Rattle.zk_jute.specs.Lenient.{or_empty}
use Rattle.zk_jute.specs.Spelling.{spelling}
use Rattle.zk_frames.specs.Frame.{frame}
use Rattle.zk_nodes.specs.Path.{Text, NodePath, path_eq, text_of, path_of, IsPathText}
use Rattle.zk_nodes.specs.History.{Node, Tree}
use Rattle.zk_nodes.specs.Names.{Names}
use Rattle.zk_nodes.specs.PathFault.{IsPath}
use Rattle.zk_history.specs.Shown.{IsStat, stat_of}
use Rattle.zk_nodes.specs.declared.side.Side.{Side}
use Rattle.zk_nodes.specs.declared.side.Side.TheVariants as sides
use Rattle.zk_nodes.specs.declared.stat.Stat.{Stat}
use Rattle.zk_records.specs.declared.event.Event.{Event}
use Rattle.zk_records.specs.Events.{event_number}
use Rattle.zk_records.specs.Layouts.{watcher_event, reply_header}
use Rattle.zk_watches.specs.Lists.{Lists}
use Rattle.zk_laws.specs.Server.{Watches, Notice, same_side, tells, both, part_tells, part_sets, AreSent}
use Rattle.zk_laws.specs.Messages.{Notifies, Watches_set}
use Rattle.zk_laws.proofs.Basics.{path_eq-true}
use Rattle.zk_bench.specs.declared.connection.Connection.{Connection}
use Rattle.zk_bench.specs.declared.rewatch.Watched.{Watched}
use Rattle.zk_bench.specs.declared.rewatch.Watched.TheVariants.{Data, Exist, Child}
use Rattle.zk_bench.specs.Serving.{is_named, watches_of}
use Rattle.zk_bench.specs.inner.Serving.{watched, Sends, SendsHeader, Tells}
use Rattle.zk_bench.specs.inner.Restoring.{missed_of, check_of, side_of, with_watch, watched_unless, told_of, left_of, texts_in, Rewatches}
use Rattle.zk_bench.specs.inner.Restoring.{RestoresPart}
use Rattle.zk_bench.proofs.Watched.{tells_both, payloads-append, joined-append}
use Rattle.zk_bench.proofs.Answered.{added, or-false}

-- One path

node_missed : (list : Watched) (children since : ℕ) (node : Option Node)
    → missed_of list (option_map (stat_of children) node) (pos since) ≡ check_of list since node
node_missed Data children since None = refl
node_missed Data children since (Some node) = refl
node_missed Exist children since None = refl
node_missed Exist children since (Some node) = refl
node_missed Child children since None = refl
node_missed Child children since (Some node) = refl

-- what was missed at a path is its check
pub missed_is : (list : Watched) (told : Option Stat) (relative : ℤ) (since : ℕ) (tree : Tree) (path : NodePath) (event : Option Event)
    → IsStat tree path told → relative ≡ pos since
    → event ≡ missed_of list told relative → check_of list since (tree path) ≡ event
missed_is list told relative since tree path event is from missed =
    sym (missed ∙ ap (missed_of list told) from ∙ ap (λ (t : Option Stat). missed_of list t (pos since)) is.2
    ∙ node_missed list (set.len is.0) since (tree path))

-- a watch more among the texts of a side
pub watch_more : (nodes parents : Names) (text : Text)
    → IsPathText text → watches_of (set.insert nodes text) parents ≡ with_watch sides.Data (path_of text) (watches_of nodes parents)
watch_more nodes parents text h = fun_ext each
  where
    each : (side : Side) → watches_of (set.insert nodes text) parents side ≡ with_watch sides.Data (path_of text)
        (watches_of nodes parents) side
    each sides.Data = fun_ext (λ path. added nodes text path h)
    each sides.Child = fun_ext (λ path. sym (or-false (is_named path && set.contains parents (text_of path))))

pub child_watch_more : (nodes parents : Names) (text : Text)
    → IsPathText text → watches_of nodes (set.insert parents text) ≡ with_watch sides.Child (path_of text) (watches_of nodes parents)
child_watch_more nodes parents text h = fun_ext each
  where
    each : (side : Side) → watches_of nodes (set.insert parents text) side ≡ with_watch sides.Child (path_of text)
        (watches_of nodes parents) side
    each sides.Data = fun_ext (λ path. sym (or-false (is_named path && set.contains nodes (text_of path))))
    each sides.Child = fun_ext (λ path. added parents text path h)

-- both lists of nodes are watched on the one side
pub on_data : (list : Watched) (w : Watches) (text : Text) → (list ≡ Data) ⊎ (list ≡ Exist)
    → with_watch sides.Data (path_of text) w ≡ with_watch (side_of list) (path_of text) w
on_data list w text (inl e) = ap (λ (l : Watched). with_watch (side_of l) (path_of text) w) (sym e)
on_data list w text (inr e) = ap (λ (l : Watched). with_watch (side_of l) (path_of text) w) (sym e)

one_sent : (n : Notice) → AreSent (n ∷ []) (n ∷ [])
one_sent n m = (omega arith, λ some. some)

-- an event that was missed is told
tells_missed : (event : Event) (text : Text) (old new : List ℕ)
    → Sends (negsuc 0, (negsuc 0, pos 0)) watcher_event (event_number event, (pos 3, Some text)) old new
    → Tells (tells text (Some event)) old new
tells_missed event text old new s =
    let notice : Notice = record { event = event; path = text } in
    let value : Value watcher_event = (event_number event, (pos 3, Some text)) in
    let payload : List ℕ = spelling reply_header (negsuc 0, (negsuc 0, pos 0)) ++ spelling watcher_event value in
    record {
      sent = notice ∷ [];
      payloads = payload ∷ [];
      admitted = one_sent notice;
      spelled = λ xid. (
        s.small,
        (
          negsuc 0,
          pos 0,
          spelling watcher_event value,
          record { fits = s.header_fits; whole = refl },
          pos 3,
          Some text,
          record { ignored = []; fits = s.value_fits; whole = sym (append-nil (spelling watcher_event value)) },
          refl,
        ),
        tt,
      );
      output = s.output ∙ ap (λ (bs : List ℕ). old ++ bs) (sym (append-nil (frame payload)));
    }

tells_none : (text : Text) (old new : List ℕ) → new ≡ old → Tells (tells text None) old new
tells_none text old new e =
    record { sent = []; payloads = []; admitted = λ m. (omega arith, λ some. some); spelled = λ xid. tt; output = e ∙ sym (append-nil old) }

-- the list of one path
one_path : (list : Watched) (since : ℕ) (tree : Tree) (text : Text) (missed : Option Event)
    → check_of list since (tree (path_of text)) ≡ missed → told_of list since tree (text ∷ []) ≡ tells text missed
one_path list since tree text missed e = append-nil (tells text (check_of list since (tree (path_of text)))) ∙ ap (tells text) e

pub one_told : (list : Watched) (since : ℕ) (tree : Tree) (text : Text) (event : Event) (w : Watches) (old new : List ℕ)
    → check_of list since (tree (path_of text)) ≡ Some event
    → Sends (negsuc 0, (negsuc 0, pos 0)) watcher_event (event_number event, (pos 3, Some text)) old new
    → Rewatches list since tree (text ∷ []) w w old new
one_told list since tree text event w old new e s = record {
  tells = subst (λ (ns : List Notice). Tells ns old new) (sym (one_path list since tree text (Some event) e))
      (tells_missed event text old new s);
  left = sym (ap (λ (o : Option Event). watched_unless o (side_of list) (path_of text) w) e);
}

pub one_watched : (list : Watched) (since : ℕ) (tree : Tree) (text : Text) (w v : Watches) (old new : List ℕ)
    → check_of list since (tree (path_of text)) ≡ None
    → v ≡ with_watch (side_of list) (path_of text) w → new ≡ old → Rewatches list since tree (text ∷ []) w v old new
one_watched list since tree text w v old new e left same = record {
  tells = subst (λ (ns : List Notice). Tells ns old new) (sym (one_path list since tree text None e)) (tells_none text old new same);
  left = left ∙ sym (ap (λ (o : Option Event). watched_unless o (side_of list) (path_of text) w) e);
}

-- Several paths

told-append : (list : Watched) (since : ℕ) (tree : Tree) (xs ys : List Text)
    → told_of list since tree (xs ++ ys) ≡ told_of list since tree xs ++ told_of list since tree ys
told-append list since tree [] ys = refl
told-append list since tree (x ∷ xs) ys =
    ap (λ (ns : List Notice). tells x (check_of list since (tree (path_of x))) ++ ns) (told-append list since tree xs ys)
    ∙ sym (append_assoc (tells x (check_of list since (tree (path_of x)))) (told_of list since tree xs) (told_of list since tree ys))

left-append : (list : Watched) (since : ℕ) (tree : Tree) (xs ys : List Text) (w : Watches)
    → left_of list since tree (xs ++ ys) w ≡ left_of list since tree ys (left_of list since tree xs w)
left-append list since tree [] ys w = refl
left-append list since tree (x ∷ xs) ys w =
    left-append list since tree xs ys (watched_unless (check_of list since (tree (path_of x))) (side_of list) (path_of x) w)

pub no_path : (list : Watched) (since : ℕ) (tree : Tree) (w : Watches) (old : List ℕ) → Rewatches list since tree [] w w old old
no_path list since tree w old = record {
  tells =
      record { sent = []; payloads = []; admitted = λ m. (omega arith, λ some. some); spelled = λ xid. tt; output = sym (append-nil old) };
  left = refl;
}

pub more_paths : (list : Watched) (since : ℕ) (tree : Tree) (xs ys : List Text) (w v u : Watches) (old mid new : List ℕ)
    → Rewatches list since tree xs w v old mid → Rewatches list since tree ys v u mid new → Rewatches list since tree (xs ++ ys) w u old new
more_paths list since tree xs ys w v u old mid new a b = record {
  tells = subst (λ (ns : List Notice). Tells ns old new) (sym (told-append list since tree xs ys))
      (tells_both (told_of list since tree xs) (told_of list since tree ys) old mid new a.tells b.tells);
  left = b.left ∙ ap (left_of list since tree ys) a.left ∙ sym (left-append list since tree xs ys w);
}

-- the front of a list with the next element
take-next : {X : Type 0} (xs : List X) (i : ℕ) (x : X) → i < length xs → x ≡ get_or xs i x → take (suc i) xs ≡ take i xs ++ x ∷ []
take-next [] i x low e = absurd (omega (arith, low))
take-next (y ∷ ys) zero x low e = ap (λ z. z ∷ []) (sym e)
take-next (y ∷ ys) (suc i) x low e = ap (λ zs. y ∷ zs) (take-next ys i x (omega (arith, low)) e)

texts-append : (xs ys : List (Option (List ℕ))) → texts_in (xs ++ ys) ≡ texts_in xs ++ texts_in ys
texts-append [] ys = refl
texts-append (x ∷ xs) ys = ap (λ (ts : List Text). or_empty x ∷ ts) (texts-append xs ys)

pub texts_next : (xs : List (Option (List ℕ))) (i : ℕ) (x : Option (List ℕ))
    → i < length xs → x ≡ get_or xs i x → texts_in (take (i + 1) xs) ≡ texts_in (take i xs) ++ or_empty x ∷ []
texts_next xs i x low e =
    let one : i + 1 ≡ suc i = omega arith in
    ap (λ (n : ℕ). texts_in (take n xs)) one ∙ ap texts_in (take-next xs i x low e) ∙ texts-append (take i xs) (x ∷ [])

take-whole : {X : Type 0} (xs : List X) (i : ℕ) → length xs ≤ i → take i xs ≡ xs
take-whole [] zero low = refl
take-whole [] (suc i) low = refl
take-whole (x ∷ xs) zero low = absurd (omega (arith, low))
take-whole (x ∷ xs) (suc i) low = ap (λ ys. x ∷ ys) (take-whole xs i (omega (arith, low)))

pub texts_whole : (xs : List (Option (List ℕ))) (i : ℕ) → length xs ≤ i → texts_in (take i xs) ≡ texts_in xs
texts_whole xs i low = ap texts_in (take-whole xs i low)

-- each text has it, so this one has
pub text_has : (P : Text → Type 0) (xs : List (Option (List ℕ))) (i : ℕ) (x : Option (List ℕ)) → AllByRecursion P (texts_in xs)
    → i < length xs → x ≡ get_or xs i x → P (or_empty x)
text_has P [] i x all low e = absurd (omega (arith, low))
text_has P (y ∷ ys) zero x all low e = subst (λ (z : Option (List ℕ)). P (or_empty z)) (sym e) all.0
text_has P (y ∷ ys) (suc i) x all low e = text_has P ys i x all.1 (omega (arith, low)) e

texts_told : (texts : List Text) → texts_in (map Some texts) ≡ texts
texts_told [] = refl
texts_told (t ∷ ts) = ap (λ (us : List Text). t ∷ us) (texts_told ts)

-- what is said of the texts as they are read holds of those that were sent
pub of_texts : (P : List Text → Type 0) (read : List (Option (List ℕ))) (sent : Option (List (Option (List ℕ)))) (texts : List Text)
    → read ≡ or_empty sent → sent ≡ Some (map Some texts)
    → AllByRecursion IsPath texts → (AllByRecursion IsPath (texts_in read) → P (texts_in read)) → P texts
of_texts P read sent texts is told paths f =
    let same : texts_in read ≡ texts =
    ap texts_in is ∙ ap (λ (ts : Option (List (Option (List ℕ)))). texts_in (or_empty ts)) told ∙ texts_told texts in
    subst P same (f (subst (AllByRecursion IsPath) (sym same) paths))

-- The watches of a part

joined : (w s a b n : Bool) → ((w || (s && (b && n))) || (s && (a && n))) ≡ (w || (s && ((b || a) && n)))
joined true s a b n = refl
joined false false a b n = refl
joined false true a true true = refl
joined false true true true false = refl
joined false true false true false = refl
joined false true a false n = refl

none_here : (w s : Bool) → w ≡ (w || (s && false))
none_here true s = refl
none_here false true = refl
none_here false false = refl

-- where a path is watched after one of the list
one_at : (list : Watched) (since : ℕ) (tree : Tree) (text : Text) (w : Watches) (side : Side) (path : NodePath)
    → watched_unless (check_of list since (tree (path_of text))) (side_of list) (path_of text) w side path
    ≡ (w side path || (same_side side (side_of list) && (path_eq path (path_of text) && not (is_some (check_of list since (tree path))))))
one_at list since tree text w side path = go (path_eq path (path_of text)) refl
  where
    here : (o : Option Event) → path_eq path (path_of text) ≡ true
        → watched_unless o (side_of list) (path_of text) w side path ≡ (w side path || (same_side side (side_of list) && not (is_some o)))
    here None e = ap (λ (b : Bool). w side path || (same_side side (side_of list) && b)) e
    here (Some event) e = none_here (w side path) (same_side side (side_of list))

    away : (o : Option Event) → path_eq path (path_of text) ≡ false
        → watched_unless o (side_of list) (path_of text) w side path ≡ (w side path || (same_side side (side_of list) && false))
    away None e = ap (λ (b : Bool). w side path || (same_side side (side_of list) && b)) e
    away (Some event) e = none_here (w side path) (same_side side (side_of list))

    go : (b : Bool) → path_eq path (path_of text) ≡ b
        → watched_unless (check_of list since (tree (path_of text))) (side_of list) (path_of text) w side path
        ≡ (w side path
        || (same_side side (side_of list) && (path_eq path (path_of text) && not (is_some (check_of list since (tree path))))))
    go true e =
        let at : path_of text ≡ path = sym (path_eq-true path (path_of text) e) in
        here (check_of list since (tree (path_of text))) e
        ∙ ap (λ (p : NodePath). w side path || (same_side side (side_of list) && not (is_some (check_of list since (tree p))))) at
        ∙ ap (λ (b : Bool). w side path || (same_side side (side_of list) && (b && not (is_some (check_of list since (tree path))))))
        (sym e)
    go false e =
        away (check_of list since (tree (path_of text))) e
        ∙ ap (λ (b : Bool). w side path || (same_side side (side_of list) && (b && not (is_some (check_of list since (tree path))))))
        (sym e)

left_at : (list : Watched) (since : ℕ) (tree : Tree) (texts : List Text) (w : Watches) (side : Side) (path : NodePath)
    → left_of list since tree texts w side path ≡ (w side path || (same_side side (side_of list)
    && (list_any (path_eq path) (map path_of texts) && not (is_some (check_of list since (tree path))))))
left_at list since tree [] w side path = none_here (w side path) (same_side side (side_of list))
left_at list since tree (text ∷ texts) w side path =
    let s : Bool = same_side side (side_of list) in
    let a : Bool = list_any (path_eq path) (map path_of texts) in
    let b : Bool = path_eq path (path_of text) in
    let n : Bool = not (is_some (check_of list since (tree path))) in
    left_at list since tree texts (watched_unless (check_of list since (tree (path_of text))) (side_of list) (path_of text) w) side path
    ∙ ap (λ (v : Bool). v || (s && (a && n))) (one_at list since tree text w side path)
    ∙ joined (w side path) s a b n

data_side : (w x y : Bool) → (((w || x) || y) || false) ≡ (w || (x || y))
data_side true x y = refl
data_side false true y = refl
data_side false false true = refl
data_side false false false = refl

child_side : (w z : Bool) → (((w || false) || false) || z) ≡ (w || z)
child_side true z = refl
child_side false z = refl

-- the three lists set the watches of the part
pub part_left : (since : ℕ) (tree : Tree) (part : Lists) (w v u t : Watches)
    → v ≡ left_of Data since tree part.data_watches w → u ≡ left_of Exist since tree part.exist_watches v
    → t ≡ left_of Child since tree part.child_watches u
    → t ≡ both w (part_sets since tree part)
part_left since tree part w v u t d e c = fun_ext each
  where
    whole : t ≡ left_of Child since tree part.child_watches
        (left_of Exist since tree part.exist_watches (left_of Data since tree part.data_watches w))
    whole = c ∙ ap (left_of Child since tree part.child_watches) (e ∙ ap (left_of Exist since tree part.exist_watches) d)

    spelled : (side : Side) (path : NodePath) → t side path ≡ (((w side path || (same_side side sides.Data
        && (list_any (path_eq path) (map path_of part.data_watches) && not (is_some (check_of Data since (tree path))))))
        || (same_side side sides.Data
        && (list_any (path_eq path) (map path_of part.exist_watches) && not (is_some (check_of Exist since (tree path))))))
        || (same_side side sides.Child
        && (list_any (path_eq path) (map path_of part.child_watches) && not (is_some (check_of Child since (tree path))))))
    spelled side path =
        let x : Bool = same_side side sides.Data
        && (list_any (path_eq path) (map path_of part.exist_watches) && not (is_some (check_of Exist since (tree path)))) in
        let z : Bool = same_side side sides.Child
        && (list_any (path_eq path) (map path_of part.child_watches) && not (is_some (check_of Child since (tree path)))) in
        ap (λ (k : Watches). k side path) whole
        ∙ left_at Child since tree part.child_watches
        (left_of Exist since tree part.exist_watches (left_of Data since tree part.data_watches w)) side path
        ∙ ap (λ (b : Bool). b || z) (left_at Exist since tree part.exist_watches (left_of Data since tree part.data_watches w) side path)
        ∙ ap (λ (b : Bool). (b || x) || z) (left_at Data since tree part.data_watches w side path)

    each : (side : Side) → t side ≡ both w (part_sets since tree part) side
    each sides.Data = fun_ext (λ path. spelled sides.Data path ∙ data_side (w sides.Data path)
        (list_any (path_eq path) (map path_of part.data_watches) && not (is_some (check_of Data since (tree path))))
        (list_any (path_eq path) (map path_of part.exist_watches) && not (is_some (check_of Exist since (tree path)))))
    each sides.Child = fun_ext (λ path. spelled sides.Child path ∙ child_side (w sides.Child path)
        (list_any (path_eq path) (map path_of part.child_watches) && not (is_some (check_of Child since (tree path)))))

-- what the three lists tell
pub part_told : (since : ℕ) (tree : Tree) (part : Lists) (old one two new : List ℕ)
    → Tells (told_of Data since tree part.data_watches) old one → Tells (told_of Exist since tree part.exist_watches) one two
    → Tells (told_of Child since tree part.child_watches) two new
    → Tells (part_tells since tree part) old new
part_told since tree part old one two new d e c =
    tells_both (told_of Data since tree part.data_watches ++ told_of Exist since tree part.exist_watches)
    (told_of Child since tree part.child_watches) old two new
    (tells_both (told_of Data since tree part.data_watches) (told_of Exist since tree part.exist_watches) old one two d e) c

-- the reply after them
pub part_restored : {A : Type 0} (tree : Tree) (zxid : ℕ) (xid : ℤ) (since : ℕ) (part : Lists) (old new : Connection A) (mid : List ℕ)
    → Tells (part_tells since tree part) old.output.items mid → SendsHeader (xid, (pos zxid, pos 0)) mid new.output.items
    → watched new.watches ≡ both (watched old.watches) (part_sets since tree part)
    → new ≡ record old { watches = new.watches; output = new.output }
    → RestoresPart tree zxid xid since part old new
part_restored tree zxid xid since part old new mid t s left rest =
    let payload : List ℕ = spelling reply_header (xid, (pos zxid, pos 0)) in
    record {
      sent = t.sent;
      admitted = t.admitted;
      payloads = t.payloads ++ payload ∷ [];
      spelled =
          λ is_last. payloads-append xid (map Notifies t.sent) (Watches_set is_last zxid ∷ []) t.payloads (payload ∷ []) (t.spelled xid)
          (s.small, ([], record { fits = s.fits; whole = sym (append-nil payload) }), tt);
      output = s.output ∙ ap (λ (bs : List ℕ). bs ++ frame payload) t.output
          ∙ append_assoc old.output.items (flat_map frame t.payloads) (frame payload)
          ∙ ap (λ (bs : List ℕ). old.output.items ++ (flat_map frame t.payloads ++ bs)) (sym (append-nil (frame payload)))
          ∙ ap (λ (bs : List ℕ). old.output.items ++ bs) (sym (joined-append t.payloads (payload ∷ [])));
      left = left;
      rest = rest;
    }
