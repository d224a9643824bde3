-- A watch that is not fired sees no change: by induction on the changes of a transaction, each of which either concerns the side of the
-- path or leaves what is seen there.
use Rattle.std.proofs.Common.{ℕ, ℤ, ◌≡◌, Bool, true, false, List, [], ◌∷◌, ◌++◌, refl, ap, sym, ◌∙◌, subst, inl, inr, ◌⊎◌, Option, Some}
use Rattle.std.proofs.Common.{None, is_some, if◌then◌else◌}
use mathlib.Core.Path.{fun_ext}
use mathlib.Core.Bool.{and-false}
use Rattle.zk_nodes.specs.Path.{Text, Name, NodePath, path_eq, text_of}
use Rattle.zk_nodes.specs.History.{Node, Tree, Change, Creates, Sets, Deletes, IsLegal, AreLegal, apply, apply_all, written, regrouped}
use Rattle.zk_nodes.specs.History.{View, view, contents_of, children_of}
use Rattle.zk_nodes.specs.declared.side.Side.{Side}
use Rattle.zk_nodes.specs.declared.side.Side.TheVariants.{Data, Child}
use Rattle.zk_records.specs.declared.event.Event.{Event}
use Rattle.zk_records.specs.declared.event.Event.TheVariants.{Created, Deleted, DataChanged, ChildrenChanged}
use Rattle.zk_records.specs.Events.{concerns}
use Rattle.std.specs.Prelude.{bytes_eq, option_map}
use Rattle.zk_turns.specs.Meaning.{Among}
use Rattle.zk_laws.proofs.Log.{tells_of}
use Rattle.zk_laws.specs.Server.{Notice, Watches, told, fires, leaves_set, fires_all, leaves_set_all}
use Rattle.zk_laws.proofs.Invariant.{is_seen, IsThere}
use Rattle.zk_laws.proofs.Basics.{text_eq_from, path_eq-true, Among-left, Among-right}

-- some notice of the list concerns the side of the path
abbrev pub IsTold : List Notice → Side → Text → Type 0
IsTold notices side path = (n : Notice) × Among n notices × (tells_of n side path ≡ true)

there_some : (names : Name → Bool) (o : Option Node) → is_seen (children_of names o) ≡ true → o ≡ None → ⊥
there_some names None h e = cc
there_some names (Some n) h e = cc

-- the watch is still set, and the view is the same
abbrev pub IsSpared : Side → NodePath → Watches → Tree → Tree → Type 0
IsSpared side path watches new old = (watches side path ≡ true) × (view side new path ≡ view side old path)

same_text : (p q : NodePath) → path_eq p q ≡ true → bytes_eq (text_of p) (text_of q) ≡ true
same_text p q e = text_eq_from (text_of p) (text_of q) (ap text_of (path_eq-true p q e))

told_left : (side on : Side) (path at : NodePath) (event : Event) (w : Watches) (more : List Notice)
    → w side at ≡ true → concerns event on ≡ true → path_eq path at ≡ true → IsTold (told side at event w ++ more) on (text_of path)
told_left side on path at event w more h about e =
    (record { event = event; path = text_of at }, rw h (inl refl), rw about (same_text path at e))

told_right : (one more : List Notice) (side : Side) (path : Text) → IsTold more side path → IsTold (one ++ more) side path
told_right one more side path t = (t.0, Among-right t.0 one more t.1, t.2)

told_first : (one more : List Notice) (side : Side) (path : Text) → IsTold one side path → IsTold (one ++ more) side path
told_first one more side path t = (t.0, Among-left t.0 one more t.1, t.2)

contents_regrouped : (z : ℕ) (o : Option Node) → contents_of (option_map (regrouped z) o) ≡ contents_of o
contents_regrouped z None = refl
contents_regrouped z (Some n) = refl

pub some_on : (f : Node → Node) (o : Option Node) → is_some (option_map f o) ≡ is_some o
some_on f None = refl
some_on f (Some n) = refl

pub children_written : (names : Name → Bool) (z : ℕ) (t : ℤ) (content : Option (List ℕ)) (o : Option Node)
    → children_of names (option_map (written z t content) o) ≡ children_of names o
children_written names z t content None = refl
children_written names z t content (Some n) = refl

-- the data side, one change
data_spared : (path : NodePath) (c : Change) (z : ℕ) (t : ℤ) (w : Watches) (tree : Tree)
    → w Data path ≡ true → IsTold (fires c w) Data (text_of path) ⊎ IsSpared Data path (leaves_set c w) (apply z t c tree) tree
data_spared path (Creates [] content owner) z t w tree h = inr (h, refl)
data_spared path (Creates (name ∷ above) content owner) z t w tree h = go (path_eq path (name ∷ above)) refl (path_eq path above) refl
  where
    go : (b : Bool) → path_eq path (name ∷ above) ≡ b → (d : Bool) → path_eq path above ≡ d
        → IsTold (fires (Creates (name ∷ above) content owner) w) Data (text_of path) ⊎ IsSpared Data path
        (leaves_set (Creates (name ∷ above) content owner) w) (apply z t (Creates (name ∷ above) content owner) tree) tree
    go true e d f = inl (told_left Data Data path (name ∷ above) Created w (told Child above ChildrenChanged w)
        (rw (← path_eq-true path (name ∷ above) e) h) refl e)
    go false e true f = inr (rw e h, rw (e, f) (contents_regrouped z (tree path)))
    go false e false f = inr (rw e h, rw (e, f) refl)
data_spared path (Sets at content) z t w tree h = go (path_eq path at) refl
  where
    go : (b : Bool) → path_eq path at ≡ b
        → IsTold (fires (Sets at content) w) Data (text_of path)
        ⊎ IsSpared Data path (leaves_set (Sets at content) w) (apply z t (Sets at content) tree) tree
    go true e = inl (record { event = DataChanged; path = text_of at }, rw (← path_eq-true path at e, h) (inl refl), same_text path at e)
    go false e = inr (rw e h, rw e refl)
data_spared path (Deletes []) z t w tree h = inr (h, refl)
data_spared path (Deletes (name ∷ above)) z t w tree h = go (path_eq path (name ∷ above)) refl (path_eq path above) refl
  where
    go : (b : Bool) → path_eq path (name ∷ above) ≡ b → (d : Bool) → path_eq path above ≡ d
        → IsTold (fires (Deletes (name ∷ above)) w) Data (text_of path)
        ⊎ IsSpared Data path (leaves_set (Deletes (name ∷ above)) w) (apply z t (Deletes (name ∷ above)) tree) tree
    go true e d f = inl (told_first (told Data (name ∷ above) Deleted w ++ told Child (name ∷ above) Deleted w)
        (told Child above ChildrenChanged w) Data (text_of path) (told_left Data Data path (name ∷ above) Deleted w
        (told Child (name ∷ above) Deleted w) (rw (← path_eq-true path (name ∷ above) e) h) refl e))
    go false e true f = inr (rw e h, rw (e, f) (contents_regrouped z (tree path)))
    go false e false f = inr (rw e h, rw (e, f) refl)

-- the names under a path that is not the changed node's parent
pub below_other : (m name : Name) (path above : NodePath) → path_eq path above ≡ false → path_eq (m ∷ path) (name ∷ above) ≡ false
below_other m name path above e = rw e (and-false (bytes_eq m name))

pub child_view : (path : NodePath) (new old : Tree)
    → new path ≡ old path → ((m : Name) → is_some (new (m ∷ path)) ≡ is_some (old (m ∷ path))) → view Child new path ≡ view Child old path
child_view path new old e each =
    let names : (λ (m : Name). is_some (new (m ∷ path))) ≡ (λ (m : Name). is_some (old (m ∷ path))) = fun_ext each in
    λ i. children_of (names i) (e i)

pub some_if : (b : Bool) (f : Node → Node) (o : Option Node) → is_some (if b then option_map f o else o) ≡ is_some o
some_if true f o = some_on f o
some_if false f o = refl

pub written_if : (b : Bool) (names : Name → Bool) (z : ℕ) (t : ℤ) (content : Option (List ℕ)) (o : Option Node)
    → children_of names (if b then option_map (written z t content) o else o) ≡ children_of names o
written_if true names z t content o = children_written names z t content o
written_if false names z t content o = refl

pub set_children : (path at : NodePath) (content : Option (List ℕ)) (z : ℕ) (t : ℤ) (tree : Tree)
    → view Child (apply z t (Sets at content) tree) path ≡ view Child tree path
set_children path at content z t tree =
    ap (λ (f : Name → Bool). children_of f (if path_eq path at then option_map (written z t content) (tree path) else tree path))
    (fun_ext (λ m. some_if (path_eq (m ∷ path) at) (written z t content) (tree (m ∷ path))))
    ∙ written_if (path_eq path at) (λ m. is_some (tree (m ∷ path))) z t content (tree path)

-- the child side, one change
child_spared : (path : NodePath) (c : Change) (z : ℕ) (t : ℤ) (w : Watches) (tree : Tree) → IsLegal c tree → is_seen (view Child tree path)
    ≡ true → w Child path ≡ true → IsTold (fires c w) Child (text_of path) ⊎ IsSpared Child path (leaves_set c w) (apply z t c tree) tree
child_spared path (Creates [] content owner) z t w tree legal there h = absurd legal
child_spared path (Creates (name ∷ above) content owner) z t w tree legal there h =
    go (path_eq path (name ∷ above)) refl (path_eq path above) refl
  where
    go : (b : Bool) → path_eq path (name ∷ above) ≡ b → (d : Bool) → path_eq path above ≡ d
        → IsTold (fires (Creates (name ∷ above) content owner) w) Child (text_of path) ⊎ IsSpared Child path
        (leaves_set (Creates (name ∷ above) content owner) w) (apply z t (Creates (name ∷ above) content owner) tree) tree
    go true e d f =
        absurd (there_some (λ m. is_some (tree (m ∷ path))) (tree path) there (ap tree (path_eq-true path (name ∷ above) e) ∙ legal.0))
    go false e true f = inl (told_right (told Data (name ∷ above) Created w) (told Child above ChildrenChanged w) Child (text_of path)
        (record { event = ChildrenChanged; path = text_of above }, rw (← path_eq-true path above f, h) (inl refl), same_text path above f))
    go false e false f = inr (
      rw f h,
      child_view path (apply z t (Creates (name ∷ above) content owner) tree) tree (rw (e, f) refl)
          (λ m. rw (below_other m name path above f) (some_if (path_eq (m ∷ path) above) (regrouped z) (tree (m ∷ path)))),
    )
child_spared path (Sets at content) z t w tree legal there h = inr (h, set_children path at content z t tree)
child_spared path (Deletes []) z t w tree legal there h = absurd legal
child_spared path (Deletes (name ∷ above)) z t w tree legal there h = go (path_eq path (name ∷ above)) refl (path_eq path above) refl
  where
    go : (b : Bool) → path_eq path (name ∷ above) ≡ b → (d : Bool) → path_eq path above ≡ d
        → IsTold (fires (Deletes (name ∷ above)) w) Child (text_of path)
        ⊎ IsSpared Child path (leaves_set (Deletes (name ∷ above)) w) (apply z t (Deletes (name ∷ above)) tree) tree
    go true e d f = inl (told_first (told Data (name ∷ above) Deleted w ++ told Child (name ∷ above) Deleted w)
        (told Child above ChildrenChanged w) Child (text_of path)
        (told_right (told Data (name ∷ above) Deleted w) (told Child (name ∷ above) Deleted w) Child (text_of path) (
          record { event = Deleted; path = text_of (name ∷ above) },
          rw (← path_eq-true path (name ∷ above) e, h) (inl refl),
          same_text path (name ∷ above) e,
        )))
    go false e true f = inl (told_right (told Data (name ∷ above) Deleted w ++ told Child (name ∷ above) Deleted w)
        (told Child above ChildrenChanged w) Child (text_of path)
        (record { event = ChildrenChanged; path = text_of above }, rw (← path_eq-true path above f, h) (inl refl), same_text path above f))
    go false e false f = inr (
      rw (f, e) h,
      child_view path (apply z t (Deletes (name ∷ above)) tree) tree (rw (e, f) refl)
          (λ m. rw (below_other m name path above f) (some_if (path_eq (m ∷ path) above) (regrouped z) (tree (m ∷ path)))),
    )

-- either side, one change
spared : (side : Side) (path : NodePath) (c : Change) (z : ℕ) (t : ℤ) (w : Watches) (tree : Tree)
    → IsLegal c tree → IsThere side (view side tree path)
    → w side path ≡ true → IsTold (fires c w) side (text_of path) ⊎ IsSpared side path (leaves_set c w) (apply z t c tree) tree
spared Data path c z t w tree legal there h = data_spared path c z t w tree h
spared Child path c z t w tree legal there h = child_spared path c z t w tree legal there h

-- A watch that a transaction does not fire stands after it, and what there is to see is the same.
pub spared_all : (side : Side) (path : NodePath) (cs : List Change) (z : ℕ) (t : ℤ) (w : Watches) (tree : Tree)
    → AreLegal z t cs tree → IsThere side (view side tree path) → w side path ≡ true
    → IsTold (fires_all cs w) side (text_of path) ⊎ IsSpared side path (leaves_set_all cs w) (apply_all z t cs tree) tree
spared_all side path [] z t w tree legal there h = inr (h, refl)
spared_all side path (c ∷ cs) z t w tree legal there h = go (spared side path c z t w tree legal.0 there h)
    (λ there' h'. spared_all side path cs z t (leaves_set c w) (apply z t c tree) legal.1 there' h')
  where
    go : IsTold (fires c w) side (text_of path) ⊎ IsSpared side path (leaves_set c w) (apply z t c tree) tree
        → (IsThere side (view side (apply z t c tree) path) → leaves_set c w side path ≡ true
        → IsTold (fires_all cs (leaves_set c w)) side (text_of path)
        ⊎ IsSpared side path (leaves_set_all cs (leaves_set c w)) (apply_all z t cs (apply z t c tree)) (apply z t c tree))
        → IsTold (fires_all (c ∷ cs) w) side (text_of path)
        ⊎ IsSpared side path (leaves_set_all (c ∷ cs) w) (apply_all z t (c ∷ cs) tree) tree
    go (inl told) more = inl (told_first (fires c w) (fires_all cs (leaves_set c w)) side (text_of path) told)
    go (inr kept) more = on (more (subst (λ (v : View). IsThere side v) (sym kept.1) there) kept.0)
      where
        on : IsTold (fires_all cs (leaves_set c w)) side (text_of path)
            ⊎ IsSpared side path (leaves_set_all cs (leaves_set c w)) (apply_all z t cs (apply z t c tree)) (apply z t c tree)
            → IsTold (fires_all (c ∷ cs) w) side (text_of path)
            ⊎ IsSpared side path (leaves_set_all (c ∷ cs) w) (apply_all z t (c ∷ cs) tree) tree
        on (inl told) = inl (told_right (fires c w) (fires_all cs (leaves_set c w)) side (text_of path) told)
        on (inr rest) = inr (rest.0, rest.1 ∙ kept.1)

-- where nothing is watched nothing is fired
IsUnwatched : Watches → Type 0
IsUnwatched w = (side : Side) (path : NodePath) → w side path ≡ false
