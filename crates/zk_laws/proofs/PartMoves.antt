-- A server that processes a part of setWatches keeps what is ahead of the client right: each path listed is told about, or watched again
-- and as it was at the relative zxid.
use Rattle.zk_watches.specs.Lists.{Lists}
use Rattle.std.proofs.Common.{ℕ, ◌≡◌, ◌≤◌, max, Bool, true, false, ◌&&◌, ◌||◌, List, [], ◌∷◌, ◌++◌, refl, ap, sym, ◌∙◌, subst, inl}
use Rattle.std.proofs.Common.{inr, ◌⊎◌, arith, Option, Some, None, is_some, map, flat_map, nat_lt}
use Rattle.std.proofs.lemmas.Bool.Decides.{nat_tests}
use Rattle.std.proofs.lemmas.Bool.{and_from, or_left, or_right, or_cases}
use Rattle.std.specs.Bool.{⊤}
use Rattle.zk_nodes.specs.Path.{Text, NodePath, path_eq, path_of}
use Rattle.zk_nodes.specs.History.{Node, Tree, History, IsHistory, tree_at, View}
use Rattle.zk_nodes.specs.History.{view}
use Rattle.zk_nodes.specs.declared.side.Side.{Side}
use Rattle.zk_nodes.specs.declared.side.Side.TheVariants.{Data, Child}
use Rattle.zk_records.specs.declared.event.Event.{Event}
use Rattle.zk_records.specs.declared.event.Event.TheVariants.{Created, Deleted, DataChanged, ChildrenChanged}
use Rattle.zk_records.specs.Events.{concerns}
use Rattle.std.specs.Prelude.{bytes_eq, not}
use Rattle.std.specs.List.{list_any}
use Rattle.zk_turns.specs.Meaning.{Among}
use Rattle.zk_laws.specs.Server.{Notice, Watches, AreSent, tree_held, zxid_held, part_tells}
use Rattle.zk_laws.specs.Server.{part_sets, both, known_check, missing_check, parent_check, tells}
use Rattle.zk_laws.specs.Messages.{Message, Watches_set, Notifies, Request, Restore}
use Rattle.zk_laws.proofs.Log.{Item, Took, last, good, zxid_in, is_listed}
use Rattle.zk_laws.proofs.Log.{Answer, Absent, Known, Full, Names, Suits}
use Rattle.zk_laws.proofs.Invariant.{IsThere, is_seen, IsRight, Ahead, is_in, IsAwaited, IsCovered, IsSure, IsSettled}
use Rattle.zk_laws.proofs.Firing.{IsTold}
use Rattle.zk_laws.proofs.Stamps.{tree_at_held, same_at, IsOld}
use Rattle.zk_laws.proofs.Basics.{text_eq-true, text_eq-refl, sent_among, path_eq_from, Among-left, Among-right}
use Rattle.zk_laws.proofs.Ahead.{ahead_more, right_less, told_log, told_less, told_none, notices_ahead}
use Rattle.zk_laws.proofs.AnswerMoves.{IsAfter, after_none, after_covered, covered_more}

-- Setting watches again

among_flat : (f : Text → List Notice) (path : Text) (ps : List Text) (n : Notice) → is_listed path ps ≡ true → Among n (f path)
    → Among n (flat_map f ps)
among_flat f path [] n e m = absurd cc
among_flat f path (p ∷ ps) n e m = go (λ e'. among_flat f path ps n e' m) (or_cases (bytes_eq path p) (is_listed path ps) e)
  where
    go : (is_listed path ps ≡ true → Among n (flat_map f ps)) → (bytes_eq path p ≡ true) ⊎ (is_listed path ps ≡ true)
        → Among n (f p ++ flat_map f ps)
    go more (inl s) = Among-left n (f p) (flat_map f ps) (subst (λ (q : Text). Among n (f q)) (text_eq-true path p s) m)
    go more (inr k) = Among-right n (f p) (flat_map f ps) (more k)

listed_among : (path : Text) (ps : List Text) → is_listed path ps ≡ true → list_any (path_eq (path_of path)) (map path_of ps) ≡ true
listed_among path [] e = absurd cc
listed_among path (p ∷ ps) e = go (λ k. listed_among path ps k) (or_cases (bytes_eq path p) (is_listed path ps) e)
  where
    go : (is_listed path ps ≡ true → list_any (path_eq (path_of path)) (map path_of ps) ≡ true) → (bytes_eq path p ≡ true)
        ⊎ (is_listed path ps ≡ true) → (path_eq (path_of path) (path_of p) || list_any (path_eq (path_of path)) (map path_of ps)) ≡ true
    go more (inl h) = or_left (path_eq (path_of path) (path_of p)) (list_any (path_eq (path_of path)) (map path_of ps))
        (path_eq_from (path_of path) (path_of p) (ap path_of (text_eq-true path p h)))
    go more (inr k) = or_right (path_eq (path_of path) (path_of p)) (list_any (path_eq (path_of path)) (map path_of ps)) (more k)

-- what stands with an old stamp where the server is stood so at the relative zxid
same_held : (h : History) (is : IsHistory h) (side : Side) (path : NodePath) (place relative : ℕ)
    → relative ≤ zxid_held h place → IsOld side relative (tree_held h place path)
    → view side (tree_held h place) path ≡ view side (tree_at h relative) path
same_held h is side path place relative le old =
    let e = tree_at_held h place is in
    let old' : IsOld side relative (tree_at h (zxid_held h place) path) = subst (λ (t : Tree). IsOld side relative (t path)) (sym e) old in
    ap (λ (t : Tree). view side t path) (sym e) ∙ (same_at h side path relative (zxid_held h place) is le old').0

-- a listed path is told about, or watched again and right
abbrev IsRestored : History → Side → Text → ℕ → ℕ → Lists → Answer → Type 0
IsRestored h side path place relative part a =
    (part_sets relative (tree_held h place) part side (path_of path) ≡ true) × Suits a (view side (tree_held h place) (path_of path))
    × IsThere side (view side (tree_held h place) (path_of path))

module _ (h : History) (is : IsHistory h) (path : Text) (place relative : ℕ) (part : Lists) (low : relative ≤ zxid_held h place) where
  -- what the three lists tell
  abbrev known_told : List Notice
  known_told = flat_map (λ p. tells p (known_check relative (tree_held h place (path_of p)))) part.data_watches

  abbrev missing_told : List Notice
  missing_told = flat_map (λ p. tells p (missing_check (tree_held h place (path_of p)))) part.exist_watches

  abbrev parents_told : List Notice
  parents_told = flat_map (λ p. tells p (parent_check relative (tree_held h place (path_of p)))) part.child_watches

  told : (side : Side) (event : Event) → concerns event side ≡ true → Among (record { event = event; path = path })
      ((known_told ++ missing_told) ++ parents_told) → IsTold (part_tells relative (tree_held h place) part) side path
  told side event of_side among =
      (record { event = event; path = path }, among, and_from (concerns event side) (bytes_eq path path) of_side (text_eq-refl path))

  missing_restored : is_listed path part.exist_watches ≡ true
      → IsTold (part_tells relative (tree_held h place) part) Data path ⊎ IsRestored h Data path place relative part Absent
  missing_restored e = go (tree_held h place (path_of path)) refl
    where
      go : (o : Option Node) → tree_held h place (path_of path) ≡ o → IsTold (part_tells relative (tree_held h place) part) Data path
          ⊎ ((part_sets relative (tree_held h place) part Data (path_of path) ≡ true)
          × Suits Absent (view Data (tree_held h place) (path_of path)) × ⊤)
      go None f = inr (
        or_right (list_any (path_eq (path_of path)) (map path_of part.data_watches)
            && not (is_some (known_check relative (tree_held h place (path_of path))))) (list_any (path_eq (path_of path))
            (map path_of part.exist_watches) && not (is_some (missing_check (tree_held h place (path_of path)))))
            (let e' = listed_among path part.exist_watches e in rw (e', f) refl),
        rw f tt,
        tt,
      )
      go (Some n) f =
          inl (told Data Created refl (Among-left _ (known_told ++ missing_told) parents_told (Among-right _ known_told missing_told
          (among_flat (λ p. tells p (missing_check (tree_held h place (path_of p)))) path part.exist_watches
          (record { event = Created; path = path }) e (rw f (inl refl))))))

  known_restored : (a : Answer) → Suits a (view Data (tree_at h relative) (path_of path)) → is_listed path part.data_watches ≡ true
      → IsTold (part_tells relative (tree_held h place) part) Data path ⊎ IsRestored h Data path place relative part a
  known_restored a fits e = go (tree_held h place (path_of path)) refl
    where
      tells_it : (event : Event) → concerns event Data ≡ true → known_check relative (tree_held h place (path_of path)) ≡ Some event
          → IsTold (part_tells relative (tree_held h place) part) Data path
      tells_it event of_side f =
          told Data event of_side (Among-left _ (known_told ++ missing_told) parents_told (Among-left _ known_told missing_told
          (among_flat (λ p. tells p (known_check relative (tree_held h place (path_of p)))) path part.data_watches
          (record { event = event; path = path }) e (rw f (inl refl)))))

      go : (o : Option Node) → tree_held h place (path_of path) ≡ o → IsTold (part_tells relative (tree_held h place) part) Data path
          ⊎ ((part_sets relative (tree_held h place) part Data (path_of path) ≡ true)
          × Suits a (view Data (tree_held h place) (path_of path)) × ⊤)
      go None f = inl (tells_it Deleted refl (rw f refl))
      go (Some n) f = on (nat_lt relative n.mzxid) refl
        where
          on : (b : Bool) → nat_lt relative n.mzxid ≡ b → IsTold (part_tells relative (tree_held h place) part) Data path
              ⊎ ((part_sets relative (tree_held h place) part Data (path_of path) ≡ true)
              × Suits a (view Data (tree_held h place) (path_of path)) × ⊤)
          on true t = inl (tells_it DataChanged refl (rw (f, t) refl))
          on false t =
              let old : n.mzxid ≤ relative = grind (arith, nat_tests) in
              let old' : IsOld Data relative (tree_held h place (path_of path)) = rw f old in
              inr (
                or_left (list_any (path_eq (path_of path)) (map path_of part.data_watches)
                    && not (is_some (known_check relative (tree_held h place (path_of path))))) (list_any (path_eq (path_of path))
                    (map path_of part.exist_watches) && not (is_some (missing_check (tree_held h place (path_of path)))))
                    (let e' = listed_among path part.data_watches e in rw (e', f, t) refl),
                subst (λ (v : View). Suits a v) (sym (same_held h is Data (path_of path) place relative low old')) fits,
                tt,
              )

  parents_restored : (a : Answer) → Suits a (view Child (tree_at h relative) (path_of path)) → is_listed path part.child_watches ≡ true
      → IsTold (part_tells relative (tree_held h place) part) Child path ⊎ IsRestored h Child path place relative part a
  parents_restored a fits e = go (tree_held h place (path_of path)) refl
    where
      tells_it : (event : Event) → concerns event Child ≡ true → parent_check relative (tree_held h place (path_of path)) ≡ Some event
          → IsTold (part_tells relative (tree_held h place) part) Child path
      tells_it event of_side f = told Child event of_side (Among-right _ (known_told ++ missing_told) parents_told
          (among_flat (λ p. tells p (parent_check relative (tree_held h place (path_of p)))) path part.child_watches
          (record { event = event; path = path }) e (rw f (inl refl))))

      go : (o : Option Node) → tree_held h place (path_of path) ≡ o → IsTold (part_tells relative (tree_held h place) part) Child path
          ⊎ ((part_sets relative (tree_held h place) part Child (path_of path) ≡ true)
          × Suits a (view Child (tree_held h place) (path_of path)) × (is_seen (view Child (tree_held h place) (path_of path)) ≡ true))
      go None f = inl (tells_it Deleted refl (rw f refl))
      go (Some n) f = on (nat_lt relative n.pzxid) refl
        where
          on : (b : Bool) → nat_lt relative n.pzxid ≡ b → IsTold (part_tells relative (tree_held h place) part) Child path
              ⊎ ((part_sets relative (tree_held h place) part Child (path_of path) ≡ true) × Suits a
              (view Child (tree_held h place) (path_of path)) × (is_seen (view Child (tree_held h place) (path_of path)) ≡ true))
          on true t = inl (tells_it ChildrenChanged refl (rw (f, t) refl))
          on false t =
              let old : n.pzxid ≤ relative = grind (arith, nat_tests) in
              let old' : IsOld Child relative (tree_held h place (path_of path)) = rw f old in
              inr (
                let e' = listed_among path part.child_watches e in rw (e', f, t) refl,
                subst (λ (v : View). Suits a v) (sym (same_held h is Child (path_of path) place relative low old')) fits,
                rw f refl,
              )

  restored : (side : Side) (a : Answer) → Suits a (view side (tree_at h relative) (path_of path)) → is_in side a path part ≡ true
      → IsTold (part_tells relative (tree_held h place) part) side path ⊎ IsRestored h side path place relative part a
  restored Data Absent fits e = missing_restored e
  restored Data (Known f) fits e = known_restored (Known f) fits e
  restored Data (Full bytes f) fits e = known_restored (Full bytes f) fits e
  restored Data (Names names z) fits e = known_restored (Names names z) fits e
  restored Child a fits e = parents_restored a fits e

set_low : (b : Bool) (z l : ℕ) → l ≤ z → max (zxid_in (Took (Watches_set b z))) l ≤ z
set_low true z l le = omega arith
set_low false z l le = omega arith

set_true : (b : Bool) (z l : ℕ) → l ≤ z → b ≡ true → max (zxid_in (Took (Watches_set b z))) l ≡ z
set_true true z l le e = omega arith
set_true false z l le e = absurd cc

set_false : (b : Bool) (z l : ℕ) → b ≡ false → max (zxid_in (Took (Watches_set b z))) l ≡ l
set_false true z l e = absurd cc
set_false false z l e = omega arith

-- A setWatches request is processed.
module _ (h : History) (is : IsHistory h) (side : Side) (path : Text) (is_last : Bool) (relative : ℕ) (part : Lists) (rest : List Request)
    (place : ℕ) (watches : Watches)
    (sent : List Notice) (all : AreSent (part_tells relative (tree_held h place) part) sent) where
  part_told : IsTold (part_tells relative (tree_held h place) part) side path → IsTold sent side path
  part_told t = (t.0, sent_among (part_tells relative (tree_held h place) part) sent t.0 all t.1, t.2)

  -- a covered answer stays covered; an awaited one is told about, covered, or still awaited, and then the zxid does not move
  part_sure : (log : List Item) (a : Answer) → good side path log ≡ Some a → IsRight h side path log → last log ≤ zxid_held h place
      → IsCovered h side (path_of path) place watches a ⊎ IsAwaited side path a (last log) (Restore is_last relative part ∷ rest)
      → IsTold sent side path ⊎ (IsCovered h side (path_of path) place (both watches (part_sets relative (tree_held h place) part)) a
      ⊎ ((is_last ≡ false) × IsAwaited side path a (last log) rest))
  part_sure log a g right low (inl c) =
      inr (inl (covered_more h side (path_of path) place watches (part_sets relative (tree_held h place) part) a c))
  part_sure log a g right low (inr w) = go w.1
    where
      fits : Suits a (view side (tree_at h relative) (path_of path))
      fits = subst (λ (z : ℕ). Suits a (view side (tree_at h z) (path_of path))) (sym w.0) (right a g).0

      low' : relative ≤ zxid_held h place
      low' = let e = w.0 in omega arith

      go : (is_in side a path part ≡ true) ⊎ ((is_last ≡ false) × IsAwaited side path a (last log) rest)
          → IsTold sent side path ⊎ (IsCovered h side (path_of path) place (both watches (part_sets relative (tree_held h place) part)) a
          ⊎ ((is_last ≡ false) × IsAwaited side path a (last log) rest))
      go (inr more) = inr (inr more)
      go (inl e) = on (restored h is path place relative part low' side a fits e)
        where
          on : IsTold (part_tells relative (tree_held h place) part) side path ⊎ IsRestored h side path place relative part a
              → IsTold sent side path ⊎ (IsCovered h side (path_of path) place (both watches (part_sets relative (tree_held h place) part))
              a ⊎ ((is_last ≡ false) × IsAwaited side path a (last log) rest))
          on (inl t) = inl (part_told t)
          on (inr r) = inr (inl (record {
            watched = or_right (watches side (path_of path))
                (part_sets relative (tree_held h place) part side (path_of path)) r.0;
            fits = r.1;
            there = r.2;
          }))

  part_end : (log : List Item) → IsRight h side path log → IsSettled h side path (Restore is_last relative part ∷ rest) place watches log
      → IsAfter h side path rest place (both watches (part_sets relative (tree_held h place) part))
      (last (Took (Watches_set is_last (zxid_held h place)) ∷ told_log sent log)) (good side path (told_log sent log))
  part_end log right end = go (told_less side path sent log).1 (good side path log) refl end.1
    where
      seen : last (told_log sent log) ≡ last log
      seen = (told_less side path sent log).0

      low : last (told_log sent log) ≤ zxid_held h place
      low = let l = end.0 in omega (arith, seen)

      none : good side path (told_log sent log) ≡ None
          → IsAfter h side path rest place (both watches (part_sets relative (tree_held h place) part))
          (max (zxid_in (Took (Watches_set is_last (zxid_held h place)))) (last (told_log sent log))) (good side path (told_log sent log))
      none e = subst (λ (k : Option Answer). IsAfter h side path rest place (both watches (part_sets relative (tree_held h place) part))
          (max (zxid_in (Took (Watches_set is_last (zxid_held h place)))) (last (told_log sent log))) k) (sym e)
          (after_none h side path rest place (both watches (part_sets relative (tree_held h place) part))
          (max (zxid_in (Took (Watches_set is_last (zxid_held h place)))) (last (told_log sent log)))
          (set_low is_last (zxid_held h place) (last (told_log sent log)) low))

      still : (a : Answer) → good side path log ≡ Some a → is_last ≡ false
          → IsCovered h side (path_of path) place (both watches (part_sets relative (tree_held h place) part)) a
          ⊎ IsAwaited side path a (last log) rest
          → IsAfter h side path rest place (both watches (part_sets relative (tree_held h place) part))
          (max (zxid_in (Took (Watches_set is_last (zxid_held h place)))) (last (told_log sent log))) (Some a)
      still a g e sure =
          let same : max (zxid_in (Took (Watches_set is_last (zxid_held h place)))) (last (told_log sent log)) ≡ last log =
          set_false is_last (zxid_held h place) (last (told_log sent log)) e ∙ seen in
          subst (λ (n : ℕ). IsAfter h side path rest place (both watches (part_sets relative (tree_held h place) part)) n (Some a))
          (sym same)
          (λ answer s. right answer (g ∙ s), (end.0, sure))

      covered : (a : Answer) → good side path log ≡ Some a
          → IsCovered h side (path_of path) place (both watches (part_sets relative (tree_held h place) part)) a → (b : Bool) → is_last ≡ b
          → IsAfter h side path rest place (both watches (part_sets relative (tree_held h place) part))
          (max (zxid_in (Took (Watches_set is_last (zxid_held h place)))) (last (told_log sent log))) (Some a)
      covered a g c true e = after_covered h is side path rest place (both watches (part_sets relative (tree_held h place) part))
          (max (zxid_in (Took (Watches_set is_last (zxid_held h place)))) (last (told_log sent log))) a
          (set_true is_last (zxid_held h place) (last (told_log sent log)) low e) (right a g).1 c
      covered a g c false e = still a g e (inl c)

      go : (good side path (told_log sent log) ≡ None) ⊎ (good side path (told_log sent log) ≡ good side path log) → (k : Option Answer)
          → good side path log ≡ k
          → IsSure h side path (Restore is_last relative part ∷ rest) place watches (last log) k
          → IsAfter h side path rest place (both watches (part_sets relative (tree_held h place) part))
          (max (zxid_in (Took (Watches_set is_last (zxid_held h place)))) (last (told_log sent log)))
          (good side path (told_log sent log))
      go (inl n) k g sure = none n
      go (inr s) None g sure = none (s ∙ g)
      go (inr s) (Some a) g sure = on (part_sure log a g right end.0 sure)
        where
          on : IsTold sent side path ⊎ (IsCovered h side (path_of path) place (both watches (part_sets relative (tree_held h place) part)) a
              ⊎ ((is_last ≡ false) × IsAwaited side path a (last log) rest))
              → IsAfter h side path rest place (both watches (part_sets relative (tree_held h place) part))
              (max (zxid_in (Took (Watches_set is_last (zxid_held h place)))) (last (told_log sent log)))
              (good side path (told_log sent log))
          on (inl t) = none (told_none side path sent log t)
          on (inr (inl c)) =
              subst (λ (k : Option Answer). IsAfter h side path rest place (both watches (part_sets relative (tree_held h place) part))
              (max (zxid_in (Took (Watches_set is_last (zxid_held h place)))) (last (told_log sent log))) k) (sym (s ∙ g))
              (covered a g c is_last refl)
          on (inr (inr w)) =
              subst (λ (k : Option Answer). IsAfter h side path rest place (both watches (part_sets relative (tree_held h place) part))
              (max (zxid_in (Took (Watches_set is_last (zxid_held h place)))) (last (told_log sent log))) k) (sym (s ∙ g))
              (still a g w.0 (inr w.1))

  pub part_ahead : (ms : List Message) (log : List Item)
      → Ahead h side path ms log (IsSettled h side path (Restore is_last relative part ∷ rest) place watches)
      → Ahead h side path (ms ++ (map Notifies sent ++ Watches_set is_last (zxid_held h place) ∷ [])) log
      (IsSettled h side path rest place (both watches (part_sets relative (tree_held h place) part)))
  part_ahead ms log a = ahead_more h side path ms (map Notifies sent ++ Watches_set is_last (zxid_held h place) ∷ []) log
      (IsSettled h side path (Restore is_last relative part ∷ rest) place watches)
      (IsSettled h side path rest place (both watches (part_sets relative (tree_held h place) part))) a (λ l right end.
      notices_ahead h side path sent (Watches_set is_last (zxid_held h place) ∷ []) l
      (IsSettled h side path rest place (both watches (part_sets relative (tree_held h place) part))) right
      (right_less h side path (told_log sent l) l (told_less side path sent l) right, refl, part_end l right end))
