-- What a client shows of a holder, put together from what its parts say: a token that is kept good, good names, and a name that is first of
-- them.
use Rattle.std.proofs.Common.{[], ◌≡◌, ◌↔◌, ℤ, Bool, true, false, ◌∷◌, Option, Some, None, refl, sym, ap, ◌∙◌, subst}
use Rattle.zk_nodes.specs.Path.{Text, Name, NodePath, path_of, name_of}
use Rattle.zk_nodes.specs.inner.Path.{is_below}
use Rattle.zk_cache.specs.declared.held.Kept.{Kept}
use Rattle.zk_cache.specs.declared.held.Mark.{Mark}
use Rattle.zk_cache.specs.declared.held.Mark.TheVariants.{Good, Stale}
use Rattle.zk_cache.specs.Kept.{Answer, Names, good}
use Rattle.zk_turns.specs.View.{View}
use Rattle.zk_laws.proofs.Basics.{path_eq-true, path_eq_from}
use Rattle.zk_conclusions.specs.Holders.{HasPrefix, IsFirstOf, ShowsHolder, token_in}
use Rattle.zk_conclusions.specs.inner.Holders.{IsShownFirst, token_kept}

-- a token comes from a good answer
pub token_good : (session token : ℤ) (kept : Option (Kept Answer))
    → token_kept session kept ≡ Some token → (answer : Answer) × (kept ≡ good answer) × (token_in session answer ≡ Some token)
token_good session token None e = absurd cc
token_good session token (Some kept) e = go kept.answer kept.mark e
  where
    go : (answer : Answer) (mark : Mark) → token_kept session (Some (record { answer = answer; mark = mark })) ≡ Some token
        → (found : Answer) × (Some (record { answer = answer; mark = mark }) ≡ good found) × (token_in session found ≡ Some token)
    go answer Good f = (answer, refl, f)
    go answer Stale f = absurd cc

pub shows_holder : (view : View) (dir : Text) (prefix : Name) (path : Text) (own : Name) (token : ℤ)
    → (path_of path ≡ own ∷ path_of dir) × HasPrefix prefix own → IsShownFirst view dir prefix own
    → Some token ≡ token_kept view.saved.session.session (view.cache.nodes path)
    → ShowsHolder view dir prefix path token
shows_holder view dir prefix path own token place first made =
    let k = token_good view.saved.session.session token (view.cache.nodes path) (sym made) in
    record {
      own = own;
      below = place.0;
      begins = place.1;
      names = first.0;
      children = first.1;
      first = first.2;
      answer = k.0;
      nodes = k.1;
      made = k.2;
    }

pub first_name : (dir path : NodePath) (one other : Name) → path ≡ one ∷ dir → path ≡ other ∷ dir → one ≡ other
first_name dir path one other e f = ap (λ (p : NodePath). elim p [ [] ↦ one | (n ∷ rest) ↦ n ]) (sym e ∙ f)

-- where the name is not first, nobody is shown to hold
pub not_first : (view : View) (dir : Text) (prefix : Name) (path : Text) (own : Name) (token : ℤ)
    → path_of path ≡ own ∷ path_of dir → (IsShownFirst view dir prefix own → ⊥) → ShowsHolder view dir prefix path token → ⊥
not_first view dir prefix path own token place not s =
    let same : s.own ≡ own = first_name (path_of dir) (path_of path) s.own own s.below place in
    not (s.names, s.children, subst (IsFirstOf s.names.names prefix) same s.first)

-- where the node has no token, nobody is
pub no_token : (view : View) (dir : Text) (prefix : Name) (path : Text) (token : ℤ)
    → token_kept view.saved.session.session (view.cache.nodes path) ≡ None → ShowsHolder view dir prefix path token → ⊥
no_token view dir prefix path token none s =
    let kept : token_kept view.saved.session.session (view.cache.nodes path) ≡ Some token =
    ap (token_kept view.saved.session.session) s.nodes ∙ s.made in
    absurd cc

-- a path with this name that lies below a directory
pub below_by : (dir path : NodePath) (name : Name) → name_of path ≡ Some name → is_below dir path ≡ true → path ≡ name ∷ dir
below_by dir [] name e b = absurd cc
below_by dir (one ∷ above) name e b =
    let same : one ≡ name = ap (λ (o : Option Name). elim o [ None ↦ one | Some n ↦ n ]) e in
    ap (λ (n : Name). n ∷ above) same ∙ ap (λ (p : NodePath). name ∷ p) (sym (path_eq-true dir above b))

pub is_below_of : (dir path : NodePath) (name : Name) → path ≡ name ∷ dir → is_below dir path ≡ true
is_below_of dir path name e = subst (λ (p : NodePath). is_below dir p ≡ true) (sym e) (path_eq_from dir dir refl)

pub not_below : (dir path : NodePath) (name : Name) (result : Bool) → result ≡ is_below dir path → result ≡ false → path ≡ name ∷ dir → ⊥
not_below dir path name result e none place = let k = is_below_of dir path name place in absurd cc

-- names that are kept and good, and a name that is first of them
pub shown_first : (view : View) (dir : Text) (prefix own : Name) (names : Names) (mark : Mark) (result : Bool) → mark ≡ Good
    → Some (record { answer = names; mark = mark }) ≡ view.cache.children dir → (result ≡ true) ↔ IsFirstOf names.names prefix own
    → (result ≡ true) ↔ IsShownFirst view dir prefix own
shown_first view dir prefix own names mark result m e h = (
  λ t. (names, sym e ∙ ap (λ (k : Mark). Some (record { answer = names; mark = k })) m, h.0 t),
  λ s. h.1 (subst (λ (n : Names). IsFirstOf n.names prefix own) (same s.0 (e ∙ s.1)) s.2),
)
  where
    same : (other : Names) → Some (record { answer = names; mark = mark }) ≡ good other → other ≡ names
    same other f = ap (λ (o : Option (Kept Names)). elim o [ None ↦ names | Some kept ↦ kept.answer ]) (sym f)
