-- What an event does to the watches of two sets of texts, and how what is told joins: one side at a time, then change by change, each
-- telling after the one before.
use Rattle.std.proofs.Common.{ℕ, zero, suc, ℤ, pos, negsuc, ◌≡◌, ◌<◌, ◌+◌, Bool, true, false, not, ◌&&◌, ◌||◌, if◌then◌else◌, List, [], ◌∷◌}
use Rattle.std.proofs.Common.{◌++◌, refl, ap, sym, ◌∙◌, subst, arith, map, append_assoc, length, take, drop, Option, Some, None, inl, inr}
use Rattle.std.proofs.Common.{◌⊎◌}
use Rattle.zk_nodes.specs.Path.{parent_of, Text, Name, NodePath, path_eq, text_of, path_of, IsPathText}
use Rattle.std.proofs.lemmas.List.{append-nil}
use Rattle.std.proofs.lemmas.Cmp.{nat_list_cmp_total}
use mathlib.Core.Path.{fun_ext}
use Rattle.std.specs.Prelude.{bytes_eq, Vec}
use Rattle.std.proofs.Math.ListN.{get_or}
use Rattle.std.proofs.Math.Seq.{drop-cons}
use Rattle.std.specs.List.{flat_map}
use Rattle.std.specs.FinSet as set
use Rattle.zk_jute.specs.Layout.{Value}
use Rattle.zk_jute.specs.Spelling.{spelling}
use Rattle.zk_frames.specs.Frame.{frame}
use Rattle.zk_nodes.specs.History.{Change, Creates, Sets, Deletes}
use Rattle.zk_nodes.specs.Names.{Names}
use Rattle.zk_nodes.specs.declared.side.Side.{Side}
use Rattle.zk_nodes.specs.declared.side.Side.TheVariants.{Data, Child}
use Rattle.zk_nodes.proofs.NamesLemmas.{tested}
use Rattle.zk_records.specs.declared.event.Event.{Event}
use Rattle.zk_records.specs.declared.event.Event.TheVariants.{Created, Deleted, DataChanged, ChildrenChanged}
use Rattle.zk_records.specs.Events.{concerns, event_number}
use Rattle.zk_records.specs.Layouts.{watcher_event, reply_header}
use Rattle.zk_laws.specs.Server.{Watches, Notice, told, times, AreSent, fires, leaves_set, fires_all, leaves_set_all}
use Rattle.zk_laws.specs.Messages.{Message, Notifies}
use Rattle.zk_laws.specs.Served.{ArePayloads}
use Rattle.zk_laws.proofs.Basics.{path_eq-true, text_eq-true, text_eq_from, path_eq_from, text_path}
use Rattle.zk_bench.specs.declared.connection.Connection.{Connection}
use Rattle.zk_bench.specs.inner.Watching.{used_up}
use Rattle.zk_bench.specs.Serving.{is_named, watches_of}
use Rattle.zk_bench.specs.inner.Serving.{fires_at, leaves_at, is_watched, Sends, Tells}

-- One side

pub named : (text : Text) → IsPathText text → is_named (path_of text) ≡ true
named text h = path_eq_from (path_of (text_of (path_of text))) (path_of text) (ap path_of (text_path text h))

-- the text of a path that is one's own is there as the text is
pub there : (texts : Names) (text : Text)
    → IsPathText text → (is_named (path_of text) && set.contains texts (text_of (path_of text))) ≡ set.contains texts text
there texts text h = ap (λ (b : Bool). b && set.contains texts (text_of (path_of text))) (named text h)
    ∙ ap (set.contains texts) (text_path text h)

stays : (b c : Bool) → b ≡ false → (not b && c) ≡ c
stays b c e = rw e refl

goes : (a b c : Bool) → b ≡ true → (a && (not b && c)) ≡ false
goes true b c e = rw e refl
goes false b c e = refl

pub other_text : (path : NodePath) (text : Text)
    → path_eq path (path_of text) ≡ false → is_named path ≡ true → bytes_eq (text_of path) text ≡ false
other_text path text other is = go (bytes_eq (text_of path) text) refl
  where
    go : (b : Bool) → bytes_eq (text_of path) text ≡ b → b ≡ false
    go false e = refl
    go true e =
        let same : text_of path ≡ text = text_eq-true (text_of path) text e in
        let back : path_of (text_of path) ≡ path = path_eq-true (path_of (text_of path)) path is in
        let at : path ≡ path_of text = sym back ∙ ap path_of same in
        let yes = path_eq_from path (path_of text) at in
        absurd cc

removed : (texts : Names) (text : Text) (path : NodePath) → IsPathText text
    → (is_named path && set.contains (set.remove texts text) (text_of path))
    ≡ (if path_eq path (path_of text) then false else (is_named path && set.contains texts (text_of path)))
removed texts text path h = ap (λ (b : Bool). is_named path && b) left ∙ go (path_eq path (path_of text)) refl (is_named path) refl
  where
    left : set.contains (set.remove texts text) (text_of path) ≡ (not (bytes_eq (text_of path) text) && set.contains texts (text_of path))
    left = set.contains-remove nat_list_cmp_total texts text (text_of path)
        ∙ ap (λ (b : Bool). not b && set.contains texts (text_of path)) (tested (text_of path) text)

    go : (b : Bool) → path_eq path (path_of text) ≡ b → (n : Bool) → is_named path ≡ n
        → (n && (not (bytes_eq (text_of path) text) && set.contains texts (text_of path)))
        ≡ (if b then false else (n && set.contains texts (text_of path)))
    go true e n f =
        let same : text_of path ≡ text = ap text_of (path_eq-true path (path_of text) e) ∙ text_path text h in
        goes n (bytes_eq (text_of path) text) (set.contains texts (text_of path)) (text_eq_from (text_of path) text same)
    go false e false f = refl
    go false e true f = stays (bytes_eq (text_of path) text) (set.contains texts (text_of path)) (other_text path text e f)

one_side : (b : Bool) (texts : Names) (text : Text) (path : NodePath) → IsPathText text
    → (is_named path && set.contains (used_up b texts text) (text_of path))
    ≡ (if b && path_eq path (path_of text) then false else (is_named path && set.contains texts (text_of path)))
one_side true texts text path h = removed texts text path h
one_side false texts text path h = refl

-- the watches that an event leaves
pub used_watches : (event : Event) (text : Text) (nodes parents : Names) → IsPathText text
    → watches_of (used_up (concerns event Data) nodes text) (used_up (concerns event Child) parents text)
    ≡ leaves_at event (path_of text) (watches_of nodes parents)
used_watches event text nodes parents h = fun_ext each
  where
    each : (side : Side) → watches_of (used_up (concerns event Data) nodes text)
        (used_up (concerns event Child) parents text) side ≡ leaves_at event (path_of text) (watches_of nodes parents) side
    each Data = fun_ext (λ path. one_side (concerns event Data) nodes text path h)
    each Child = fun_ext (λ path. one_side (concerns event Child) parents text path h)

-- whether there was one
pub was_watched : (event : Event) (text : Text) (nodes parents : Names) → IsPathText text
    → ((concerns event Data && set.contains nodes text) || (concerns event Child && set.contains parents text))
    ≡ is_watched event (path_of text) (watches_of nodes parents)
was_watched event text nodes parents h =
    ap (λ (b : Bool). (concerns event Data && b) || (concerns event Child && set.contains parents text)) (sym (there nodes text h))
    ∙ ap (λ (b : Bool). (concerns event Data && (is_named (path_of text) && set.contains nodes (text_of (path_of text))))
    || (concerns event Child && b)) (sym (there parents text h))

-- What is sent

times-append : (n : Notice) (xs ys : List Notice) → times n (xs ++ ys) ≡ times n xs + times n ys
times-append n [] ys = omega arith
times-append n (x ∷ xs) ys = let r = times-append n xs ys in omega (arith, r)

pub none_sent : AreSent [] []
none_sent n = (omega arith, λ h. h)

pub sent-append : (f g s t : List Notice) → AreSent f s → AreSent g t → AreSent (f ++ g) (s ++ t)
sent-append f g s t a b n =
    let u = times-append n f g in
    let v = times-append n s t in
    let p = (a n).0 in
    let q = (b n).0 in
    (omega (arith, u, v, p, q), λ some. go (a n).1 (b n).1 some u v)
  where
    go : (0 < times n f → 0 < times n s) → (0 < times n g → 0 < times n t) → 0 < times n (f ++ g)
        → times n (f ++ g) ≡ times n f + times n g → times n (s ++ t) ≡ times n s + times n t → 0 < times n (s ++ t)
    go p q some u v = on (times n f) refl
      where
        on : (k : ℕ) → times n f ≡ k → 0 < times n (s ++ t)
        on zero e = let m : 0 < times n g = omega (arith, some, u, e) in let r = q m in omega (arith, r, v)
        on (suc k) e = let m : 0 < times n f = omega (arith, e) in let r = p m in omega (arith, r, v)

pub map-append : (xs ys : List Notice) → map Notifies (xs ++ ys) ≡ map Notifies xs ++ map Notifies ys
map-append [] ys = refl
map-append (x ∷ xs) ys = ap (λ (ms : List Message). Notifies x ∷ ms) (map-append xs ys)

pub payloads-append : (xid : ℤ) (ms ns : List Message) (ps qs : List (List ℕ))
    → ArePayloads xid ms ps → ArePayloads xid ns qs → ArePayloads xid (ms ++ ns) (ps ++ qs)
payloads-append xid [] ns [] qs a b = b
payloads-append xid [] ns (p ∷ ps) qs a b = absurd a
payloads-append xid (m ∷ ms) ns [] qs a b = absurd a
payloads-append xid (m ∷ ms) ns (p ∷ ps) qs a b = (a.0, a.1, payloads-append xid ms ns ps qs a.2 b)

pub joined-append : (ps qs : List (List ℕ)) → flat_map frame (ps ++ qs) ≡ flat_map frame ps ++ flat_map frame qs
joined-append [] qs = refl
joined-append (p ∷ ps) qs =
    ap (λ (bs : List ℕ). frame p ++ bs) (joined-append ps qs) ∙ sym (append_assoc (frame p) (flat_map frame ps) (flat_map frame qs))

-- nothing is told
pub tells_nothing : (old new : List ℕ) → new ≡ old → Tells [] old new
tells_nothing old new e = record { sent = []; payloads = []; admitted = none_sent; spelled = λ xid. tt; output = e ∙ sym (append-nil old) }

-- one thing is told after another
pub tells_both : (f g : List Notice) (old mid new : List ℕ) → Tells f old mid → Tells g mid new → Tells (f ++ g) old new
tells_both f g old mid new a b = record {
  sent = a.sent ++ b.sent;
  payloads = a.payloads ++ b.payloads;
  admitted = sent-append f g a.sent b.sent a.admitted b.admitted;
  spelled = λ xid. subst (λ (ms : List Message). ArePayloads xid ms (a.payloads ++ b.payloads)) (sym (map-append a.sent b.sent))
      (payloads-append xid (map Notifies a.sent) (map Notifies b.sent) a.payloads b.payloads (a.spelled xid) (b.spelled xid));
  output = b.output ∙ ap (λ (bs : List ℕ). bs ++ flat_map frame b.payloads) a.output
      ∙ append_assoc old (flat_map frame a.payloads) (flat_map frame b.payloads)
      ∙ ap (λ (bs : List ℕ). old ++ bs) (sym (joined-append a.payloads b.payloads));
}

-- An event

-- one for each of two that hold
abbrev each_of : (n : Notice) (p q : Bool) → List Notice
each_of n p q = (if p then n ∷ [] else []) ++ (if q then n ∷ [] else [])

fires_each : (event : Event) (at : NodePath) (w : Watches)
    → fires_at event at w
    ≡ each_of (record { event = event; path = text_of at }) (concerns event Data && w Data at) (concerns event Child && w Child at)
fires_each Created at w = refl
fires_each Deleted at w = refl
fires_each DataChanged at w = refl
fires_each ChildrenChanged at w = refl

some_sent : (n : Notice) (p q : Bool) → (p || q) ≡ true → AreSent (each_of n p q) (n ∷ [])
some_sent n true true h m = (omega arith, λ some. go (times m (n ∷ [])) refl some)
  where
    go : (k : ℕ) → times m (n ∷ []) ≡ k → 0 < times m (n ∷ n ∷ []) → 0 < k
    go zero e some = absurd (omega (arith, e, some))
    go (suc k) e some = omega arith
some_sent n true false h m = (omega arith, λ some. some)
some_sent n false true h m = (omega arith, λ some. some)
some_sent n false false h m = absurd cc

none_fired : (n : Notice) (p q : Bool) → (p || q) ≡ false → each_of n p q ≡ []
none_fired n true q h = absurd cc
none_fired n false true h = absurd cc
none_fired n false false h = refl

pub tells_event : (event : Event) (text : Text) (w : Watches) (old new : List ℕ)
    → IsPathText text → is_watched event (path_of text) w ≡ true
    → Sends (negsuc 0, (negsuc 0, pos 0)) watcher_event (event_number event, (pos 3, Some text)) old new
    → Tells (fires_at event (path_of text) w) old new
tells_event event text w old new h there s =
    let notice : Notice = record { event = event; path = text_of (path_of text) } in
    let value : Value watcher_event = (event_number event, (pos 3, Some text)) in
    let payload : List ℕ = spelling reply_header (negsuc 0, (negsuc 0, pos 0)) ++ spelling watcher_event value in
    record {
      sent = notice ∷ [];
      payloads = payload ∷ [];
      admitted = subst (λ (f : List Notice). AreSent f (notice ∷ [])) (sym (fires_each event (path_of text) w))
          (some_sent notice (concerns event Data && w Data (path_of text)) (concerns event Child && w Child (path_of text)) there);
      spelled = λ xid. (
        s.small,
        (
          negsuc 0,
          pos 0,
          spelling watcher_event value,
          record { fits = s.header_fits; whole = refl },
          pos 3,
          Some text,
          record { ignored = []; fits = s.value_fits; whole = sym (append-nil (spelling watcher_event value)) },
          sym (text_path text h),
        ),
        tt,
      );
      output = s.output ∙ ap (λ (bs : List ℕ). old ++ bs) (sym (append-nil (frame payload)));
    }

pub tells_no_event : (event : Event) (text : Text) (w : Watches) (old new : List ℕ)
    → is_watched event (path_of text) w ≡ false → new ≡ old → Tells (fires_at event (path_of text) w) old new
tells_no_event event text w old new none e =
    let notice : Notice = record { event = event; path = text_of (path_of text) } in
    subst (λ (f : List Notice). Tells f old new)
    (sym (fires_each event (path_of text) w ∙ none_fired notice (concerns event Data && w Data (path_of text))
    (concerns event Child && w Child (path_of text)) none)) (tells_nothing old new e)

-- A change

below_other : (name : Name) (path : NodePath) → path_eq path (name ∷ path) ≡ false
below_other name path = go (path_eq path (name ∷ path)) refl
  where
    go : (b : Bool) → path_eq path (name ∷ path) ≡ b → b ≡ false
    go false e = refl
    go true e = let longer : length path ≡ suc (length path) = ap length (path_eq-true path (name ∷ path) e) in
        absurd (omega (arith, longer))

pub fires_created : (name : Name) (path : NodePath) (content : Option (List ℕ)) (owner : ℤ) (w : Watches)
    → fires_at Created (name ∷ path) w ++ fires_at ChildrenChanged path (leaves_at Created (name ∷ path) w)
    ≡ fires (Creates (name ∷ path) content owner) w
fires_created name path content owner w =
    ap (λ (ns : List Notice). ns ++ told Child path ChildrenChanged w) (append-nil (told Data (name ∷ path) Created w))

pub fires_deleted : (name : Name) (path : NodePath) (w : Watches)
    → fires_at Deleted (name ∷ path) w ++ fires_at ChildrenChanged path (leaves_at Deleted (name ∷ path) w)
    ≡ fires (Deletes (name ∷ path)) w
fires_deleted name path w =
    ap (λ (b : Bool). told Data (name ∷ path) Deleted w ++ told Child (name ∷ path) Deleted w ++ (if (if b then false else w Child path)
    then record { event = ChildrenChanged; path = text_of path } ∷ [] else [])) (below_other name path)

pub fires_set : (path : NodePath) (content : Option (List ℕ)) (w : Watches) → fires_at DataChanged path w ≡ fires (Sets path content) w
fires_set path content w = append-nil (told Data path DataChanged w)

pub left_created : (name : Name) (path : NodePath) (content : Option (List ℕ)) (owner : ℤ) (w : Watches)
    → leaves_at ChildrenChanged path (leaves_at Created (name ∷ path) w) ≡ leaves_set (Creates (name ∷ path) content owner) w
left_created name path content owner w = fun_ext each
  where
    each : (side : Side) → leaves_at ChildrenChanged path (leaves_at Created (name ∷ path) w) side
        ≡ leaves_set (Creates (name ∷ path) content owner) w side
    each Data = refl
    each Child = refl

pub left_deleted : (name : Name) (path : NodePath) (w : Watches)
    → leaves_at ChildrenChanged path (leaves_at Deleted (name ∷ path) w) ≡ leaves_set (Deletes (name ∷ path)) w
left_deleted name path w = fun_ext each
  where
    each : (side : Side) → leaves_at ChildrenChanged path (leaves_at Deleted (name ∷ path) w) side
        ≡ leaves_set (Deletes (name ∷ path)) w side
    each Data = refl
    each Child = refl

pub left_set : (path : NodePath) (content : Option (List ℕ)) (w : Watches) → leaves_at DataChanged path w ≡ leaves_set (Sets path content) w
left_set path content w = fun_ext each
  where
    each : (side : Side) → leaves_at DataChanged path w side ≡ leaves_set (Sets path content) w side
    each Data = refl
    each Child = refl

-- a node is made or deleted at this path
abbrev pub IsMove : Event → NodePath → Change → Type 0
IsMove event at change = ((event ≡ Created) × (content : Option (List ℕ)) × (owner : ℤ) × (change ≡ Creates at content owner))
    ⊎ ((event ≡ Deleted) × (change ≡ Deletes at))

pub moved_fires : (event : Event) (at above : NodePath) (change : Change) (w : Watches) → IsMove event at change → parent_of at ≡ Some above
    → fires_at event at w ++ fires_at ChildrenChanged above (leaves_at event at w) ≡ fires change w
moved_fires event [] above change w m p = absurd cc
moved_fires event (name ∷ path) above change w (inl m) p =
    let same : path ≡ above = ap (λ (o : Option NodePath). elim o [ None ↦ path | Some q ↦ q ]) p in
    subst (λ (e : Event). fires_at e (name ∷ path) w ++ fires_at ChildrenChanged above (leaves_at e (name ∷ path) w) ≡ fires change w)
    (sym m.0)
    (subst (λ (c : Change). fires_at Created (name ∷ path) w
    ++ fires_at ChildrenChanged above (leaves_at Created (name ∷ path) w) ≡ fires c w) (sym m.3)
    (subst (λ (q : NodePath). fires_at Created (name ∷ path) w ++ fires_at ChildrenChanged q (leaves_at Created (name ∷ path) w)
    ≡ fires (Creates (name ∷ path) m.1 m.2) w) same (fires_created name path m.1 m.2 w)))
moved_fires event (name ∷ path) above change w (inr m) p =
    let same : path ≡ above = ap (λ (o : Option NodePath). elim o [ None ↦ path | Some q ↦ q ]) p in
    subst (λ (e : Event). fires_at e (name ∷ path) w ++ fires_at ChildrenChanged above (leaves_at e (name ∷ path) w) ≡ fires change w)
    (sym m.0)
    (subst (λ (c : Change). fires_at Deleted (name ∷ path) w
    ++ fires_at ChildrenChanged above (leaves_at Deleted (name ∷ path) w) ≡ fires c w) (sym m.1)
    (subst (λ (q : NodePath). fires_at Deleted (name ∷ path) w ++ fires_at ChildrenChanged q (leaves_at Deleted (name ∷ path) w)
    ≡ fires (Deletes (name ∷ path)) w) same (fires_deleted name path w)))

pub moved_left : (event : Event) (at above : NodePath) (change : Change) (w : Watches) → IsMove event at change → parent_of at ≡ Some above
    → leaves_at ChildrenChanged above (leaves_at event at w) ≡ leaves_set change w
moved_left event [] above change w m p = absurd cc
moved_left event (name ∷ path) above change w (inl m) p =
    let same : path ≡ above = ap (λ (o : Option NodePath). elim o [ None ↦ path | Some q ↦ q ]) p in
    subst (λ (e : Event). leaves_at ChildrenChanged above (leaves_at e (name ∷ path) w) ≡ leaves_set change w) (sym m.0)
    (subst (λ (c : Change). leaves_at ChildrenChanged above (leaves_at Created (name ∷ path) w) ≡ leaves_set c w) (sym m.3)
    (subst (λ (q : NodePath). leaves_at ChildrenChanged q (leaves_at Created (name ∷ path) w)
    ≡ leaves_set (Creates (name ∷ path) m.1 m.2) w) same (left_created name path m.1 m.2 w)))
moved_left event (name ∷ path) above change w (inr m) p =
    let same : path ≡ above = ap (λ (o : Option NodePath). elim o [ None ↦ path | Some q ↦ q ]) p in
    subst (λ (e : Event). leaves_at ChildrenChanged above (leaves_at e (name ∷ path) w) ≡ leaves_set change w) (sym m.0)
    (subst (λ (c : Change). leaves_at ChildrenChanged above (leaves_at Deleted (name ∷ path) w) ≡ leaves_set c w) (sym m.1)
    (subst (λ (q : NodePath). leaves_at ChildrenChanged q (leaves_at Deleted (name ∷ path) w) ≡ leaves_set (Deletes (name ∷ path)) w) same
    (left_deleted name path w)))

-- of the root nothing is told
pub moved_none : (event : Event) (at : NodePath) (change : Change) (w : Watches)
    → IsMove event at change → parent_of at ≡ None → (fires change w ≡ []) × (leaves_set change w ≡ w)
moved_none event (name ∷ path) change w m p = absurd cc
moved_none event [] change w (inl m) p = subst (λ (c : Change). (fires c w ≡ []) × (leaves_set c w ≡ w)) (sym m.3) (refl, refl)
moved_none event [] change w (inr m) p = subst (λ (c : Change). (fires c w ≡ []) × (leaves_set c w ≡ w)) (sym m.1) (refl, refl)

-- The next of a list

-- what is left of a list, after its next element
pub drop-next : {X : Type 0} (xs : List X) (i : ℕ) (x : X) → i < length xs → x ≡ get_or xs i x → drop i xs ≡ x ∷ drop (i + 1) xs
drop-next xs i x low e =
    let one : suc i ≡ i + 1 = omega arith in
    drop-cons xs i x low ∙ ap (λ y. y ∷ drop (suc i) xs) (sym e) ∙ ap (λ (n : ℕ). x ∷ drop n xs) one

-- one change more
pub fires_next : (change : Change) (fired : List Notice) (changes more all : List Change) (w w0 : Watches)
    → changes ≡ change ∷ more → fires_all all w0 ≡ fired ++ fires_all changes w
    → fires_all all w0 ≡ (fired ++ fires change w) ++ fires_all more (leaves_set change w)
fires_next change fired changes more all w w0 e before = before ∙ ap (λ (cs : List Change). fired ++ fires_all cs w) e
    ∙ sym (append_assoc fired (fires change w) (fires_all more (leaves_set change w)))

pub left_next : (change : Change) (changes more all : List Change) (w w0 : Watches)
    → changes ≡ change ∷ more → leaves_set_all all w0 ≡ leaves_set_all changes w
    → leaves_set_all all w0 ≡ leaves_set_all more (leaves_set change w)
left_next change changes more all w w0 e before = before ∙ ap (λ (cs : List Change). leaves_set_all cs w) e

-- only the watches and the output change
pub rest-more : {A : Type 0} (old mid new : Connection A) → mid ≡ record old { watches = mid.watches; output = mid.output }
    → new ≡ record mid { watches = new.watches; output = new.output }
    → new ≡ record old { watches = new.watches; output = new.output }
rest-more {A} old mid new a b =
    b ∙ ap {A = Connection A} {B = Connection A} (λ k. record k { watches = new.watches; output = new.output }) a

-- and so where the output changes once more
pub output_more : {A : Type 0} (old mid : Connection A) (out : Vec ℕ A) → mid ≡ record old { watches = mid.watches; output = mid.output }
    → record mid { output = out } ≡ record old { watches = mid.watches; output = out }
output_more {A} old mid out e = ap {A = Connection A} {B = Connection A} (λ k. record k { output = out }) e

-- Beginnings

pub begun-more : (old mid new : List ℕ) → take (length old) mid ≡ old → take (length mid) new ≡ mid → take (length old) new ≡ old
begun-more [] mid new a b = refl
begun-more (x ∷ xs) [] new a b = absurd cc
begun-more (x ∷ xs) (y ∷ ys) [] a b = absurd cc
begun-more (x ∷ xs) (y ∷ ys) (z ∷ zs) a b =
    let front : y ∷ take (length xs) ys ≡ x ∷ xs = a in
    let behind : z ∷ take (length ys) zs ≡ y ∷ ys = b in
    let p : take (length xs) ys ≡ xs = ap (λ (l : List ℕ). tail l) front in
    let q : take (length ys) zs ≡ ys = ap (λ (l : List ℕ). tail l) behind in
    let same : z ≡ x = ap (head z) behind ∙ ap (head z) front in
    let rest = begun-more xs ys zs p q in
    cc
  where
    tail : List ℕ → List ℕ
    tail [] = []
    tail (k ∷ ks) = ks

    head : ℕ → List ℕ → ℕ
    head d [] = d
    head d (k ∷ ks) = k
