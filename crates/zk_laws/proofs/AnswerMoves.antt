-- A server that answers a call, or a ping, keeps what is ahead of the client right: the answer leaves what there is to see where the server
-- stands, and the watch is set there.
use Rattle.std.specs.FinSet as set
use Rattle.zk_cache.specs.Kept.{same_fields}
use Rattle.std.proofs.Common.{ℕ, pos, ◌≡◌, ◌≤◌, max, Bool, true, false, List, [], ◌∷◌, ◌++◌, refl, ap, sym, ◌∙◌, subst, inl}
use Rattle.std.proofs.Common.{inr, arith, Option, Some, None, is_some, if◌then◌else◌, nat_lt}
use Rattle.std.proofs.lemmas.Bool.Decides.{nat_tests}
use Rattle.std.proofs.lemmas.Bool.{and_parts, and_right, or_right}
use Rattle.zk_nodes.specs.DataStats.{data_stat_of}
use Rattle.zk_nodes.specs.Path.{Text, Name, NodePath, text_of, path_of}
use Rattle.zk_nodes.proofs.PathLemmas.{IsPath-text}
use Rattle.zk_nodes.specs.History.{Node, Tree, History, IsHistory, tree_at, node_fields, View, Absence, Contents}
use Rattle.zk_nodes.specs.History.{Children, view, contents_of, children_of}
use Rattle.zk_conversation.specs.Calls.{Call, Exists, GetData, GetChildren}
use Rattle.zk_nodes.specs.declared.data_stat.DataStat.{DataStat}
use Rattle.zk_nodes.specs.declared.side.Side.{Side}
use Rattle.zk_nodes.specs.declared.side.Side.TheVariants.{Data, Child}
use Rattle.zk_conversation.specs.Questions.{Question, question_of}
use Rattle.zk_turns.specs.Past.{Left, leaves_data, leaves_child}
use Rattle.zk_cache.specs.Kept.{Answer as Kept_answer, Names as Kept_names}
use Rattle.zk_conversation.specs.Results.{Result, NoNode, Found, Read, Listing}
use Rattle.std.specs.Prelude.{bytes_eq}
use Rattle.zk_laws.specs.Server.{Watches, sets, tree_held, zxid_held, Gives}
use Rattle.zk_laws.specs.Server.{both, same_side}
use Rattle.zk_laws.specs.Laws.{sets_at}
use Rattle.zk_laws.proofs.Tables.{data_table, child_table}
use Rattle.zk_turns.specs.Turns.{IsAskable}
use Rattle.zk_laws.specs.Messages.{Message, Replies, Pong, Request, Ask, Ping}
use Rattle.zk_laws.proofs.Log.{place_left, Item, Took, last, good, refreshed, answer_of, left_by, is_place, leaves}
use Rattle.zk_laws.proofs.Log.{Answer, Absent, Known, Full, Names, Suits}
use Rattle.zk_laws.proofs.Steps.{is_behind}
use Rattle.zk_conversation.specs.Pending.{closes}
use Rattle.zk_laws.proofs.Invariant.{IsThere, is_seen, IsRight, Ahead, IsCovered, IsSure, IsSettled}
use Rattle.zk_turns.proofs.Cached.{fields_same, fields_same-refl}
use Rattle.zk_laws.proofs.Stamps.{tree_at_held, same_at, IsOld, IsAtMost, below_at}
use Rattle.zk_laws.proofs.Basics.{text_eq-true, path_eq_from}
use Rattle.zk_laws.proofs.Ahead.{ahead_more, right_less, max_zero}
use Rattle.zk_laws.proofs.NextMoves.{sure_none}

-- A reply that leaves a watch gives what there is to see, at a path that can be watched so.
fits_left : (h : History) (place : ℕ) (side : Side) (path : Text) (q : Call) (r : Result)
    → Gives h place q r → leaves (question_of q) r side path ≡ true
    → Suits (answer_of r) (view side (tree_held h place) (path_of path)) × IsThere side (view side (tree_held h place) (path_of path))
fits_left h place Data path (Exists at true) NoNode g e = let p = text_eq-true path at e in
    (subst (λ (q : Text). Suits Absent (view Data (tree_held h place) (path_of q))) (sym p) g, tt)
fits_left h place Child path (Exists at true) NoNode g e = absurd cc
fits_left h place Data path (Exists at true) (Found stat) g e = let p = text_eq-true path at e in
    (subst (λ (q : Text). Suits (Known (data_stat_of stat)) (view Data (tree_held h place) (path_of q))) (sym p) g, tt)
fits_left h place Child path (Exists at true) (Found stat) g e = absurd cc
fits_left h place Data path (GetData at true) (Read bytes stat) g e = let p = text_eq-true path at e in
    (subst (λ (q : Text). Suits (Full bytes (data_stat_of stat)) (view Data (tree_held h place) (path_of q))) (sym p) g, tt)
fits_left h place Child path (GetData at true) (Read bytes stat) g e = absurd cc
fits_left h place Data path (GetChildren at true) (Listing names stat) g e = absurd cc
fits_left h place Child path (GetChildren at true) (Listing names stat) g e =
    let p = text_eq-true path at e in
    let f : Suits (Names (set.from_list names) stat.pzxid) (view Child (tree_held h place) (path_of path)) =
    subst (λ (q : Text). Suits (Names (set.from_list names) stat.pzxid) (view Child (tree_held h place) (path_of q))) (sym p) g.0 in
    (f, seen (view Child (tree_held h place) (path_of path)) f)
  where
    seen : (v : View) → Suits (Names (set.from_list names) stat.pzxid) v → is_seen v ≡ true
    seen Absence f = absurd f
    seen (Contents content fields) f = absurd f
    seen (Children present z) f = refl
fits_left h place side path _ _ g e = absurd cc

-- it is about a path
asked_named : (q : Call) (r : Result) (side : Side) (path : Text)
    → IsAskable q → leaves (question_of q) r side path ≡ true → text_of (path_of path) ≡ path
asked_named (Exists at true) NoNode side path asked e = let p =
    text_eq-true path at (and_parts (same_side side Data) (bytes_eq path at) e).1 in
    subst (λ (q : Text). text_of (path_of q) ≡ q) (sym p) (IsPath-text at asked.1)
asked_named (Exists at true) (Found fields) side path asked e = let p =
    text_eq-true path at (and_parts (same_side side Data) (bytes_eq path at) e).1 in
    subst (λ (q : Text). text_of (path_of q) ≡ q) (sym p) (IsPath-text at asked.1)
asked_named (GetData at true) (Read bytes fields) side path asked e = let p =
    text_eq-true path at (and_parts (same_side side Data) (bytes_eq path at) e).1 in
    subst (λ (q : Text). text_of (path_of q) ≡ q) (sym p) (IsPath-text at asked.1)
asked_named (GetChildren at true) (Listing names pzxid) side path asked e = let p =
    text_eq-true path at (and_parts (same_side side Child) (bytes_eq path at) e).1 in
    subst (λ (q : Text). text_of (path_of q) ≡ q) (sym p) (IsPath-text at asked.1)
asked_named _ _ side path asked e = absurd cc

-- and the server sets the watch there
sets_data : (node : Option (Left Kept_answer)) (children : Option (Left Kept_names)) (path : Text)
    → is_place (place_left node children) Data path ≡ true → sets_at node (path_of path) ≡ true
sets_data (Some left) children path e = path_eq_from (path_of path) (path_of left.path) (ap path_of (text_eq-true path left.path e))
sets_data None (Some left) path e = absurd cc
sets_data None None path e = absurd cc

sets_child : (node : Option (Left Kept_answer)) (children : Option (Left Kept_names)) (path : Text)
    → is_place (place_left node children) Child path ≡ true → sets_at children (path_of path) ≡ true
sets_child (Some left) children path e = absurd cc
sets_child None (Some left) path e = path_eq_from (path_of path) (path_of left.path) (ap path_of (text_eq-true path left.path e))
sets_child None None path e = absurd cc

sets_left : (question : Question) (result : Result) (side : Side) (path : Text)
    → leaves question result side path ≡ true → sets question result side (path_of path) ≡ true
sets_left question result Data path e =
    data_table question result (path_of path) ∙ sets_data (leaves_data question result) (leaves_child question result) path e
sets_left question result Child path e =
    child_table question result (path_of path) ∙ sets_child (leaves_data question result) (leaves_child question result) path e

pub fields_eq-refl : (a : DataStat) → same_fields a a ≡ true
fields_eq-refl a = fields_same-refl a

fields_old : (z0 : ℕ) (o o0 : Option Node) (c c0 : Option (List ℕ)) (g : DataStat)
    → contents_of o ≡ Contents c g → contents_of o0 ≡ Contents c0 g → IsAtMost (λ node. node.mzxid) z0 o0 → IsOld Data z0 o
fields_old z0 None o0 c c0 g e e0 b = absurd cc
fields_old z0 (Some n) None c c0 g e e0 b = absurd cc
fields_old z0 (Some n) (Some n0) c c0 g e e0 b =
    let f : node_fields n ≡ node_fields n0 = cc in
    let m : pos n.mzxid ≡ pos n0.mzxid = ap (λ (k : DataStat). k.mzxid) f in
    let m' : n.mzxid ≡ n0.mzxid = cc in
    omega arith

-- the same seven fields at two zxids have the same data
same_contents : (h : History) (path : NodePath) (z0 z : ℕ) (c c0 : Option (List ℕ)) (g : DataStat) → IsHistory h → z0 ≤ z
    → view Data (tree_at h z) path ≡ Contents c g → view Data (tree_at h z0) path ≡ Contents c0 g → c ≡ c0
same_contents h path z0 z c c0 g is le e e0 =
    let old = fields_old z0 (tree_at h z path) (tree_at h z0 path) c c0 g e e0 (below_at h path z0 is) in
    let same = (same_at h Data path z0 z is le old).0 in
    let both : Contents c g ≡ Contents c0 g = sym e ∙ (same ∙ e0) in
    cc

not_known : (f : DataStat) (names : Name → Bool) (o : Option Node) → Suits (Known f) (children_of names o) → ⊥
not_known f names None h = h
not_known f names (Some n) h = h

refreshed_fits : (h : History) (is : IsHistory h) (side : Side) (path : NodePath) (z0 z : ℕ) (new : Answer) (old : Option Answer)
    → z0 ≤ z → Suits new (view side (tree_at h z) path)
    → ((a : Answer) → old ≡ Some a → Suits a (view side (tree_at h z0) path)) → Suits (refreshed new old) (view side (tree_at h z) path)
refreshed_fits h is Child path z0 z (Known f) (Some (Full bytes kept)) le fits right =
    absurd (not_known f (λ name. is_some (tree_at h z (name ∷ path))) (tree_at h z path) fits)
refreshed_fits h is Data path z0 z (Known f) (Some (Full bytes kept)) le fits right = go (same_fields f kept) refl
  where
    here : (v v0 : View) → view Data (tree_at h z) path ≡ v → view Data (tree_at h z0) path ≡ v0 → Suits (Known f) v
        → Suits (Full bytes kept) v0 → f ≡ kept → Suits (Full bytes f) v
    here Absence v0 e e0 a b k = absurd a
    here (Children ns p) v0 e e0 a b k = absurd a
    here (Contents c g) Absence e e0 a b k = absurd b
    here (Contents c g) (Children ns p) e e0 a b k = absurd b
    here (Contents c g) (Contents c0 g0) e e0 a b k =
        let gg : g0 ≡ g = cc (a, b.1, k) in
        let e0' : view Data (tree_at h z0) path ≡ Contents c0 g =
        subst (λ (f' : DataStat). view Data (tree_at h z0) path ≡ Contents c0 f') gg e0 in
        let c' = same_contents h path z0 z c c0 g is le e e0' in
        (b.0 ∙ sym c', a)

    go : (b : Bool) → same_fields f kept ≡ b → Suits (if b then Full bytes f else Known f) (view Data (tree_at h z) path)
    go true e = here (view Data (tree_at h z) path) (view Data (tree_at h z0) path) refl refl fits
        (right (Full bytes kept) refl) (fields_same f kept e)
    go false e = fits
refreshed_fits h is side path z0 z new old le fits right = fits

-- what is to hold once a message is taken, in terms of the last seen zxid and of what is good then
abbrev pub IsAfter : History → Side → Text → List Request → ℕ → Watches → ℕ → Option Answer → Type 0
IsAfter h side path requests place watches z k =
    ((answer : Answer) → k ≡ Some answer → Suits answer (view side (tree_at h z) (path_of path)) × (text_of (path_of path) ≡ path))
    × ((z ≤ zxid_held h place) × IsSure h side path requests place watches z k)

pub after_none : (h : History) (side : Side) (path : Text) (requests : List Request) (place : ℕ) (watches : Watches) (z : ℕ)
    → z ≤ zxid_held h place → IsAfter h side path requests place watches z None
after_none h side path requests place watches z le = (λ answer e. absurd cc, (le, tt))

-- what is covered is right where the server stands
pub after_covered : (h : History) (is : IsHistory h) (side : Side) (path : Text) (requests : List Request) (place : ℕ) (watches : Watches)
    (z : ℕ) (a : Answer) → z ≡ zxid_held h place → text_of (path_of path) ≡ path
    → IsCovered h side (path_of path) place watches a → IsAfter h side path requests place watches z (Some a)
after_covered h is side path requests place watches z a e named c =
    let here : tree_held h place ≡ tree_at h z = sym (ap (λ (n : ℕ). tree_at h n) e ∙ tree_at_held h place is) in
    let f : Suits a (view side (tree_at h z) (path_of path)) = subst (λ (t : Tree). Suits a (view side t (path_of path))) here c.fits in (
      λ answer s. let same : a ≡ answer = cc in
          (subst (λ (b : Answer). Suits b (view side (tree_at h z) (path_of path))) same f, named),
      (omega arith, inl c),
    )

-- more watches cover as much
pub covered_more : (h : History) (side : Side) (path : NodePath) (place : ℕ) (watches more : Watches) (a : Answer)
    → IsCovered h side path place watches a → IsCovered h side path place (both watches more) a
covered_more h side path place watches more a c = record { watched = rw (c.watched) refl; fits = c.fits; there = c.there }

-- A reply to a question is not behind, and what it leaves is right.
module _ (h : History) (is : IsHistory h) (side : Side) (path : Text) (rest : List Request) (place : ℕ) (watches : Watches)
    (q : Call) (r : Result) (asked : IsAskable q) (gives : Gives h place q r) where
  reply_end : (log : List Item) → IsRight h side path log → IsSettled h side path (Ask q ∷ rest) place watches log
      → IsAfter h side path rest place (both watches (sets (question_of q) r))
      (last (Took (Replies (question_of q) (zxid_held h place) r) ∷ log))
      (good side path (Took (Replies (question_of q) (zxid_held h place) r) ∷ log))
  reply_end log right end = go (closes (question_of q)) (leaves (question_of q) r side path) refl (good side path log) refl end.1
    where
      low : last log ≤ zxid_held h place
      low = end.0

      seen : max (zxid_held h place) (last log) ≡ zxid_held h place
      seen = omega arith

      here : tree_at h (max (zxid_held h place) (last log)) ≡ tree_held h place
      here = ap (λ (z : ℕ). tree_at h z) seen ∙ tree_at_held h place is

      go : (b d : Bool) → leaves (question_of q) r side path ≡ d → (k : Option Answer)
          → good side path log ≡ k → IsSure h side path (Ask q ∷ rest) place watches (last log) k
          → IsAfter h side path rest place (both watches (sets (question_of q) r)) (max (zxid_held h place) (last log))
          (if b then None else (if d then Some (refreshed (answer_of r) k) else k))
      go true d f k g sure =
          after_none h side path rest place (both watches (sets (question_of q) r)) (max (zxid_held h place) (last log)) (omega arith)
      go false true f k g sure =
          let left = fits_left h place side path q r gives f in
          let fits : Suits (answer_of r) (view side (tree_at h (max (zxid_held h place) (last log))) (path_of path)) =
          subst (λ (t : Tree). Suits (answer_of r) (view side t (path_of path))) (sym here) left.0 in
          let fresh = refreshed_fits h is side (path_of path) (last log) (max (zxid_held h place) (last log)) (answer_of r) k
          (omega arith) fits (λ a e. (right a (g ∙ e)).0) in
          let fresh' : Suits (refreshed (answer_of r) k) (view side (tree_held h place) (path_of path)) =
          subst (λ (t : Tree). Suits (refreshed (answer_of r) k) (view side t (path_of path))) here fresh in
          after_covered h is side path rest place (both watches (sets (question_of q) r)) (max (zxid_held h place) (last log))
          (refreshed (answer_of r) k) seen (asked_named q r side path asked f)
          (record {
            watched = or_right (watches side (path_of path)) (sets (question_of q) r side (path_of path))
                (sets_left (question_of q) r side path f);
            fits = fresh';
            there = left.1;
          })
      go false false f None g sure =
          after_none h side path rest place (both watches (sets (question_of q) r)) (max (zxid_held h place) (last log)) (omega arith)
      go false false f (Some a) g (inl c) =
          after_covered h is side path rest place (both watches (sets (question_of q) r)) (max (zxid_held h place) (last log)) a seen
          (right a g).1 (covered_more h side (path_of path) place watches (sets (question_of q) r) a c)
      go false false f (Some a) g (inr w) = absurd w

  not_behind : (log : List Item) → last log ≤ zxid_held h place → is_behind log (Replies (question_of q) (zxid_held h place) r) ≡ false
  not_behind log le = and_right (is_some (left_by (question_of q) r)) (nat_lt (zxid_held h place) (last log)) (grind (arith, nat_tests))

  pub answer_ahead : (ms : List Message) (log : List Item) → Ahead h side path ms log (IsSettled h side path (Ask q ∷ rest) place watches)
      → Ahead h side path (ms ++ Replies (question_of q) (zxid_held h place) r ∷ []) log
      (IsSettled h side path rest place (both watches (sets (question_of q) r)))
  answer_ahead ms log a = ahead_more h side path ms (Replies (question_of q) (zxid_held h place) r ∷ []) log
      (IsSettled h side path (Ask q ∷ rest) place watches)
      (IsSettled h side path rest place (both watches (sets (question_of q) r))) a (λ l right end.
      (right, not_behind l end.0, reply_end l right end))

-- A pong moves nothing.
pub pong_ahead : (h : History) (side : Side) (path : Text) (rest : List Request) (place : ℕ) (watches : Watches)
    (ms : List Message) (log : List Item)
    → Ahead h side path ms log (IsSettled h side path (Ping ∷ rest) place watches)
    → Ahead h side path (ms ++ Pong ∷ []) log (IsSettled h side path rest place watches)
pong_ahead h side path rest place watches ms log a = ahead_more h side path ms (Pong ∷ []) log
    (IsSettled h side path (Ping ∷ rest) place watches) (IsSettled h side path rest place watches) a (λ l right end.
    let low = end.0 in (
      right,
      refl,
      (right_less h side path (Took Pong ∷ l) l (max_zero (last l), inr refl) right, (omega arith, go l (good side path l) refl end.1)),
    ))
  where
    go : (l : List Item) (k : Option Answer) → good side path l ≡ k → IsSure h side path (Ping ∷ rest) place watches (last l) k
        → IsSure h side path rest place watches (last (Took Pong ∷ l)) (good side path l)
    go l None e sure = sure_none h side path rest place watches (last (Took Pong ∷ l)) (good side path l) e
    go l (Some a) e (inl c) = subst (λ (o : Option Answer). IsSure h side path rest place watches (last (Took Pong ∷ l)) o) (sym e) (inl c)
    go l (Some a) e (inr w) = absurd w
