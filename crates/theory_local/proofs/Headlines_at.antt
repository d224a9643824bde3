-- The laws of a client whose servers keep to the model at some paths: the invariant between the two holds after each schedule, and gives
-- each law at those paths.
use Rattle.std.proofs.Common.{◌≤◌, pos, ◌≡◌, ℕ, ℤ, true, List, [], ◌∷◌, ◌++◌, map, refl, sym}
use Rattle.std.proofs.Common.{ap, subst, ◌∙◌, arith, inl, inr, ◌⊎◌, Some}
use Rattle.zk_nodes.specs.Path.{Text, path_of}
use Rattle.zk_nodes.specs.History.{Tree, History, IsHistory, tree_at, view as to_see}
use Rattle.zk_nodes.specs.DataStats.{data_stat_of}
use Rattle.zk_nodes.specs.declared.side.Side.{Side}
use Rattle.zk_nodes.specs.declared.side.Side.TheVariants.{Data, Child}
use Rattle.zk_conversation.specs.Calls.{Call, Exists, GetData, GetChildren}
use Rattle.zk_conversation.specs.Calls as Calls
use Rattle.zk_conversation.specs.Questions as Questions
use Rattle.zk_conversation.specs.Questions.{question_of, Question}
use Rattle.zk_conversation.specs.Results.{Result, NoNode, Refused, Found, Read, Listing}
use Rattle.zk_laws.proofs.Matching.{AllAsked}
use Rattle.zk_turns.specs.Rule.{Stands}
use Rattle.zk_turns.specs.Turns.{Start, Item, Fault}
use Rattle.zk_turns.specs.View.{View}
use Rattle.zk_turns.specs.Taken.{past_of}
use Rattle.zk_turns.specs.Meaning.{Among}
use Rattle.zk_turns.specs.Past.{is_talking, state_of}
use Rattle.zk_turns.specs.Past.{names_of, Asked, Happening, Past, held_of, kept_data, kept_names}
use Rattle.zk_turns.specs.Past.{Took as Takes_in, Replies as Answers_call}
use Rattle.zk_laws.specs.Server.{FitsNames, Reads, tree_held, zxid_held, Gives}
use Rattle.zk_laws.specs.Laws.{IsTrueWrite, AreRestored}
use Rattle.zk_laws.specs.Messages.{Request, from_zero}
use Rattle.zk_laws.proofs.Log.{Item as Log_item, last, good, Answer, Absent, Known, Full, Suits}
use Rattle.zk_laws.proofs.Invariant.{IsSure, IsSettled, Ahead}
use Rattle.zk_laws.proofs.Seen.{seen, item_of}
use Rattle.zk_laws.specs.Served.{Wire, unread}
use Rattle.zk_laws.proofs.Matching.{Letter, messages}
use Rattle.zk_laws.proofs.Outputs.{given_answers, given_drops}
use Rattle.zk_laws.proofs.More.{given_write}
use Rattle.zk_laws.proofs.Seeing.{last_is}
use Rattle.zk_laws.proofs.Stamps.{tree_at_held}
use Rattle.theory_local.specs.LocalSteps.{IsAbout}
use Rattle.theory_local.specs.LocalServed.{LocalEntry, items_at, wire_at, WasSentAt, IsServingAt, ServedAt}
use Rattle.theory_local.specs.LocalHeadline.{IsDenial, IsTrueAt, IsCoherentAt, IsQuietAfter, tree_after, HeadlineAt, IsDueAt, ReadsFollow}
use Rattle.theory_local.specs.LocalHeadline.{RepliesRise}
use Rattle.zk_laws.proofs.More.{not_awaited}
use Rattle.zk_laws.proofs.Between.{IsLow}
use Rattle.zk_laws.proofs.Matching.{Tail, IsDue, IsAnswered, IsAnsweredFor, IsCalm, InFlight, Meets}
use Rattle.zk_laws.proofs.Taking.{talking_of}
use Rattle.zk_laws.proofs.Answered.{node_fits, names_fit, nothing_in_flight, calm_before, call_at, due_at}
use Rattle.theory_local.proofs.Kept_at.{IsLow as IsNone}
use Rattle.theory_local.proofs.Local_at.{IsGivenAt, local, local_keeps}
use Rattle.theory_local.proofs.Moving_at.{schedule_at}

-- a tree that all good answers about these paths fit
cache_at : (P : Text → Type 0) (start : Start) (past : Past) (tree : Tree)
    → ((path : Text) → P path → (a : Answer) → good Data path (seen start past) ≡ Some a → Suits a (to_see Data tree (path_of path)))
    → ((path : Text) → P path → (a : Answer) → good Child path (seen start past) ≡ Some a → Suits a (to_see Child tree (path_of path)))
    → IsTrueAt P tree (record { nodes = λ path. kept_data path past; children = λ path. kept_names path past })
cache_at P start past tree f g = record {
  nodes = λ path p. node_fits start past tree path (f path p);
  children = λ path p. names_fit start past tree path (g path p);
}

-- a read is true at the zxid of where its server stood
given_true : (h : History) (is : IsHistory h) (n : ℕ) (q : Call) (r : Result)
    → Gives h n q r → Reads (tree_at h (zxid_held h n)) (question_of q) r
given_true h is n (Exists p w) NoNode g = subst (λ t. Suits Absent (to_see Data t (path_of p))) (sym (tree_at_held h n is)) g
given_true h is n (Exists p w) (Found f) g =
    subst (λ t. Suits (Known (data_stat_of f)) (to_see Data t (path_of p))) (sym (tree_at_held h n is)) g
given_true h is n (GetData p w) NoNode g = subst (λ t. Suits Absent (to_see Data t (path_of p))) (sym (tree_at_held h n is)) g
given_true h is n (GetData p w) (Read b f) g =
    subst (λ t. Suits (Full b (data_stat_of f)) (to_see Data t (path_of p))) (sym (tree_at_held h n is)) g
given_true h is n (GetChildren p w) NoNode g = subst (λ t. Suits Absent (to_see Child t (path_of p))) (sym (tree_at_held h n is)) g
given_true h is n (GetChildren p w) (Listing ns z) g =
    subst (λ t. FitsNames (names_of ns z) (to_see Child t (path_of p)) × Suits (Known (data_stat_of z)) (to_see Data t (path_of p)))
    (sym (tree_at_held h n is)) g
given_true h is n _ _ g = tt

-- a refusal says nothing
refused_read : (tree : Tree) (q : Question) (code : ℤ) → Reads tree q (Refused code)
refused_read tree (Questions.Exists at b) code = tt
refused_read tree (Questions.GetData at b) code = tt
refused_read tree (Questions.GetChildren at b) code = tt
refused_read tree _ code = tt

refused_write : (h : History) (call : Call) (z : ℕ) (code : ℤ) → IsTrueWrite h call z (Refused code)
refused_write h call z code = by call
  where
    by : (call : Call) → IsTrueWrite h call z (Refused code)
    by (Calls.SetData path content version) = tt
    by (Calls.Create path content mode) = tt
    by (Calls.Delete path version) = tt
    by _ = tt

-- ---- the laws

module _ (P : Text → Type 0) (h : History) (is : IsHistory h) (start : Start) where
  pub stands_here : (items : List Item) → AllAsked items → (served : ServedAt P h start items)
      → Meets (local P h) start (WasSentAt served.entries) (past_of start items) (wire_at h served.entries)
  stands_here items asked served =
      subst (λ t. Meets (local P h) start (WasSentAt served.entries) (past_of start t) (wire_at h served.entries)) served.whole
      (schedule_at P h is start (WasSentAt served.entries) served.entries (λ p w. w) (subst AllAsked (sym served.whole) asked) served.may)

  coherent_by : (Was : List ℕ → Type 0) (items : List Item) (view : View) (wire : Wire)
      → Stands start items view → Meets (local P h) start Was (past_of start items) wire → IsCoherentAt P h view
  coherent_by Was items view wire s stands =
      let past : Past = past_of start items in
      let z : last (seen start past) ≡ from_zero view.saved.last = last_is start past ∙ ap from_zero (sym (ap (λ t. t.last) s.saved)) in
      subst (λ c. IsTrueAt P (tree_at h (from_zero view.saved.last)) c) (sym s.cache)
      (subst (λ n. IsTrueAt P (tree_at h n) (record { nodes = λ path. kept_data path past; children = λ path. kept_names path past })) z
      (cache_at P start past (tree_at h (last (seen start past))) (λ path p a e. (stands.right Data path p a e).0)
      (λ path p a e. (stands.right Child path p a e).0)))

  pub coherent_at : (items : List Item) (view : View) → Stands start items view → ServedAt P h start items → IsCoherentAt P h view
  coherent_at items view s served =
      coherent_by (WasSentAt served.entries) items view (wire_at h served.entries) s (stands_here items s.asked served)

  -- ---- quiet agreement

  agrees_at : (past : Past) (wire : Wire) (Was : List ℕ → Type 0) (letters : List Letter) (tail : Tail)
      → InFlight (local P h) start Was past wire letters tail
      → is_talking (state_of past) ≡ true → wire.coming ≡ [] → held_of past ≡ []
      → AreRestored (map (λ s. s.request) (unread start past wire))
      → (side : Side) (path : Text) → P path → (a : Answer) → good side path (seen start past) ≡ Some a
      → Suits a (to_see side (tree_held h wire.server.place) (path_of path))
  agrees_at past wire Was letters tail g talks received taken restored side path p a e =
      let none : letters ≡ [] =
      nothing_in_flight letters tail (sym g.bytes ∙ ap (λ l. held_of past ++ l) received ∙ ap (λ l. l ++ []) taken) in
      let rs : List Request = map (λ s. s.request) (unread start past wire) in
      let ahead = (talking_of h start (local P h) (local_keeps P h is (from_zero start.last)) Was past wire letters tail talks g).ahead
      side path p in
      let settled : Ahead h side path [] (seen start past) (IsSettled h side path rs wire.server.place wire.server.watches) =
      subst (λ ms. Ahead h side path ms (seen start past) (IsSettled h side path rs wire.server.place wire.server.watches))
      (ap messages none) ahead in
      sure rs (subst (λ k. IsSure h side path rs wire.server.place wire.server.watches (last (seen start past)) k) e settled.1.1) restored
    where
      sure : (rs : List Request) → IsSure h side path rs wire.server.place wire.server.watches (last (seen start past)) (Some a)
          → AreRestored rs → Suits a (to_see side (tree_held h wire.server.place) (path_of path))
      sure rs (inl c) r = c.fits
      sure rs (inr w) r = absurd (not_awaited side path a (last (seen start past)) rs r w)

  pub quiet_at : (entries : List LocalEntry) (view : View) → IsServingAt P h start entries → Stands start (items_at entries) view
      → IsQuietAfter h start entries → IsTrueAt P (tree_after h entries) view.cache
  quiet_at entries view may s quiet =
      let stands = schedule_at P h is start (WasSentAt entries) entries (λ p w. w) s.asked may in
      let past : Past = past_of start (items_at entries) in
      let wire : Wire = wire_at h entries in
      let g = stands.going quiet.going in
      let agrees = agrees_at past wire (WasSentAt entries) g.0 g.1 g.2 quiet.talking quiet.received quiet.taken quiet.restored in
      subst (λ c. IsTrueAt P (tree_after h entries) c) (sym s.cache)
      (cache_at P start past (tree_after h entries) (λ path p a e. agrees Data path p a e) (λ path p a e. agrees Child path p a e))

  -- ---- answers and drops

  -- what is true of an answer about one of these paths
  low_true : (call : Call) (z : ℤ) (r : Result) → IsLow z r
      → Reads (tree_at h (from_zero z)) (question_of call) r × IsTrueWrite h call (from_zero z) r
  low_true call z (Refused code) low =
      (refused_read (tree_at h (from_zero z)) (question_of call) code, refused_write h call (from_zero z) code)
  low_true call z _ low = absurd low

  given_low : (z : ℕ) (r : Result) → IsNone z r → IsLow (pos z) r
  given_low z (Refused code) low = low.0
  given_low z _ low = absurd low

  true_at : (log : List Log_item) (call : Call) (z : ℤ) (r : Result) → IsAnsweredFor (local P h) log call z r → IsAbout P call
      → Reads (tree_at h (from_zero z)) (question_of call) r × IsTrueWrite h call (from_zero z) r
  true_at log call z r (inl a) about = by a.2
    where
      by : IsGivenAt P h call (from_zero z) r ⊎ IsNone (from_zero z) r
          → Reads (tree_at h (from_zero z)) (question_of call) r × IsTrueWrite h call (from_zero z) r
      by (inl g) =
          let gives = g.2.1 about in (
            subst (λ n. Reads (tree_at h n) (question_of call) r) (sym g.1) (given_true h is g.0 call r gives),
            subst (λ n. IsTrueWrite h call n r) (sym g.1) (given_write h g.0 call r gives),
          )
      by (inr low) = low_true call (pos (from_zero z)) r (given_low (from_zero z) r low)
  true_at log call z r (inr d) about = low_true call z r d.1

  denial_of : (z : ℤ) (r : Result) → IsLow z r → IsDenial z r
  denial_of z (Refused code) low = low
  denial_of z _ low = absurd low

  item_last : (items log : List Log_item) (n : ℕ) → n ≤ last log → n ≤ last (items ++ log)
  item_last [] log n le = le
  item_last (item ∷ items) log n le = let k = item_last items log n le in omega arith

  -- what the client began with is not above what it has seen
  began_low : (past : Past) → from_zero start.last ≤ last (seen start past)
  began_low [] = omega arith
  began_low (x ∷ past) = item_last (item_of x) (seen start past) (from_zero start.last) (began_low past)

  above_at : (before : Past) (call : Call) (z : ℤ) (r : Result) → IsAnsweredFor (local P h) (seen start before) call z r
      → ((from_zero start.last ≤ from_zero z) × (z ≡ pos (from_zero z))) ⊎ IsDenial z r
  above_at before call z r (inl a) = let le = a.1 in let began = began_low before in inl (omega arith, a.0)
  above_at before call z r (inr d) = inr (denial_of z r d.1)

  due_by : (entries : List LocalEntry) (fault : Fault) (past : Past) → IsDue (local P h) start (WasSentAt entries) fault past
      → IsDueAt start entries fault
  due_by entries fault past (inl e) = inl e
  due_by entries fault past (inr (inl d)) = inr (inl (d.0, (d.1.0, d.1.1, d.1.4)))
  due_by entries fault past (inr (inr d)) = inr (inr (d.1, d.2, d.3))

  -- what a reply says, that was taken
  pub reads_at : (items : List Item) → AllAsked items → ServedAt P h start items → (ticket : ℕ) (q : Question) (z : ℤ) (r : Result)
      → Among (Takes_in (Answers_call ticket q z r)) (past_of start items)
      → (call : Call) × Among (Asked ticket call) (past_of start items) × (question_of call ≡ q)
      × (IsAbout P call → Reads (tree_at h (from_zero z)) q r)
  reads_at items asked served ticket q z r a =
      let stands = stands_here items asked served in
      let c = call_at (local P h) start (WasSentAt served.entries) (past_of start items) stands.calm ticket q z r a in
      (c.0, c.1, c.2, λ about. subst (λ p. Reads (tree_at h (from_zero z)) p r) c.2 (true_at (seen start c.3) c.0 z r c.4 about).0)

  -- ---- the order of replies

  after_at : (before : Past) (ticket : ℕ) (q : Question) (z : ℤ) (r : Result) → IsAnswered (local P h) start before ticket q z r
      → (last (seen start before) ≤ from_zero z) ⊎ IsDenial z r
  after_at before ticket q z r w = by w.5
    where
      by : IsAnsweredFor (local P h) (seen start before) w.1 z r → (last (seen start before) ≤ from_zero z) ⊎ IsDenial z r
      by (inl a) = inl a.1
      by (inr d) = inr (denial_of z r d.1)

  -- what was taken is not above what was seen last
  taken_last : (ticket : ℕ) (q : Question) (z : ℤ) (r : Result) (past : Past)
      → Among (Takes_in (Answers_call ticket q z r)) past → from_zero z ≤ last (seen start past)
  taken_last ticket q z r [] a = absurd a
  taken_last ticket q z r (x ∷ past) (inl e) =
      subst (λ y. from_zero z ≤ last (item_of y ++ seen start past)) e (omega arith)
  taken_last ticket q z r (x ∷ past) (inr a) =
      item_last (item_of x) (seen start past) (from_zero z) (taken_last ticket q z r past a)

  pub replies_rise_at : (items : List Item) → AllAsked items → ServedAt P h start items → RepliesRise (past_of start items)
  replies_rise_at items asked served since before ticket other question its zxid earlier result given e a =
      let stands = stands_here items asked served in
      let low = taken_last other its earlier given before a in
      by (after_at before ticket question zxid result
      (calm_before (local P h) start (WasSentAt served.entries) since (Takes_in (Answers_call ticket question zxid result) ∷ before)
      (subst (λ past. IsCalm (local P h) start (WasSentAt served.entries) past) e stands.calm)).0) low
    where
      by : (last (seen start before) ≤ from_zero zxid) ⊎ IsDenial zxid result → from_zero earlier ≤ last (seen start before)
          → (from_zero earlier ≤ from_zero zxid) ⊎ IsDenial zxid result
      by (inl le) low = inl (omega arith)
      by (inr denial) low = inr denial

  among_middle : (x : Happening) (since before : Past) → Among x (since ++ x ∷ before)
  among_middle x [] before = inl refl
  among_middle x (y ∷ since) before = inr (among_middle x since before)

  pub reads_follow_at : (items : List Item) → AllAsked items → ServedAt P h start items → ReadsFollow P h (past_of start items)
  reads_follow_at items asked served since before ticket other question its zxid earlier result given e a plain = (
    by (replies_rise_at items asked served since before ticket other question its zxid earlier result given e a),
    reads_at items asked served ticket question zxid result
        (subst (λ past. Among (Takes_in (Answers_call ticket question zxid result)) past) (sym e)
        (among_middle (Takes_in (Answers_call ticket question zxid result)) since before)),
  )
    where
      by : (from_zero earlier ≤ from_zero zxid) ⊎ IsDenial zxid result → from_zero earlier ≤ from_zero zxid
      by (inl le) = le
      by (inr denial) = absurd (plain denial)

  pub headline_at : (items : List Item) (view : View) → Stands start items view → (served : ServedAt P h start items)
      → HeadlineAt P h start items view served.entries
  headline_at items view s served =
      let stands = stands_here items s.asked served in
      record {
        coherent = coherent_at items view s served;
        answers = λ ticket zxid result a.
            let t = given_answers ticket zxid result start items view s a in
            let c = call_at (local P h) start (WasSentAt served.entries) (past_of start items) stands.calm ticket t.0 zxid result t.1 in (
              c.0,
              c.1,
              subst (λ q. Among (Takes_in (Answers_call ticket q zxid result)) (past_of start items)) (sym c.2) t.1,
              true_at (seen start c.3) c.0 zxid result c.4,
              above_at c.3 c.0 zxid result c.4,
            );
        drops = λ fault a.
            let d = due_at (local P h) start (WasSentAt served.entries) (past_of start items) stands.calm fault
            (given_drops fault start items view s a) in
            due_by served.entries fault d.0 d.1;
      }
