-- What a client shows of its standing, put together from what its parts say: the listing's names, a token that is kept, and a name that is
-- first of them.
use Rattle.std.proofs.Common.{◌≡◌, ◌≤ℤ◌, ℤ, true, false, ◌∷◌, List, Option, Some, None, sym, ap, ◌∙◌, subst}
use Rattle.zk_nodes.specs.Path.{Text, Name, path_of}
use Rattle.zk_turns.specs.View.{View}
use Rattle.zk_conclusions.specs.inner.Holders.{token_kept}
use Rattle.zk_conclusions.proofs.Shown.{token_good, first_name}
use Rattle.zk_conclusions.specs.Numbers.{Kind, is_numbered}
use Rattle.zk_conclusions.specs.Standings.{IsFirstOf, ShowsStanding}

-- an order of two numbers, of two that are the same
pub le_as : (a b x y : ℤ) → a ≡ x → b ≡ y → a ≤ℤ b → x ≤ℤ y
le_as a b x y e f h = subst (λ (z : ℤ). z ≤ℤ y) e (subst (λ (z : ℤ). a ≤ℤ z) f h)

pub shows_standing : (view : View) (dir : Text) (kind : Kind) (names : List Name) (listed : ℤ) (path : Text) (own : Name) (token : ℤ)
    → path_of path ≡ own ∷ path_of dir → is_numbered kind.own own ≡ true → IsFirstOf kind names own
    → Some token ≡ token_kept view.saved.session.session (view.cache.nodes path)
    → token ≤ℤ listed → listed ≤ℤ view.saved.last → ShowsStanding view dir kind names listed path token
shows_standing view dir kind names listed path own token place numbered first made after seen =
    let k = token_good view.saved.session.session token (view.cache.nodes path) (sym made) in
    record {
      own = own;
      below = place;
      numbered = numbered;
      answer = k.0;
      nodes = k.1;
      made = k.2;
      first = first;
      after = after;
      seen = seen;
    }

module _ (view : View) (dir : Text) (kind : Kind) (names : List Name) (listed : ℤ) (path : Text) where
  -- the own name is the path's last one
  pub own_is : (own : Name) (token : ℤ)
      → path_of path ≡ own ∷ path_of dir → (s : ShowsStanding view dir kind names listed path token) → s.own ≡ own
  own_is own token place s = first_name (path_of dir) (path_of path) s.own own s.below place

  pub not_numbered : (own : Name) (token : ℤ)
      → path_of path ≡ own ∷ path_of dir → is_numbered kind.own own ≡ false → ShowsStanding view dir kind names listed path token → ⊥
  not_numbered own token place none s = let k : is_numbered kind.own own ≡ true =
      subst (λ (n : Name). is_numbered kind.own n ≡ true) (own_is own token place s) s.numbered in absurd cc

  pub not_first : (own : Name) (token : ℤ) → path_of path ≡ own ∷ path_of dir → (IsFirstOf kind names own → ⊥)
      → ShowsStanding view dir kind names listed path token → ⊥
  not_first own token place none s = none (subst (IsFirstOf kind names) (own_is own token place s) s.first)

  -- the token is the one that is kept
  pub token_is : (token : ℤ)
      → ShowsStanding view dir kind names listed path token → token_kept view.saved.session.session (view.cache.nodes path) ≡ Some token
  token_is token s = ap (token_kept view.saved.session.session) s.nodes ∙ s.made

  pub no_token : (token : ℤ)
      → token_kept view.saved.session.session (view.cache.nodes path) ≡ None → ShowsStanding view dir kind names listed path token → ⊥
  no_token token none s = let k = token_is token s in absurd cc

  pub same_token : (token other : ℤ) → Some other ≡ token_kept view.saved.session.session (view.cache.nodes path)
      → ShowsStanding view dir kind names listed path token → token ≡ other
  same_token token other made s = ap (λ (o : Option ℤ). elim o [ None ↦ token | Some z ↦ z ]) (sym (token_is token s) ∙ sym made)

  pub not_between : (token other : ℤ) (last : ℤ) → last ≡ view.saved.last
      → Some other ≡ token_kept view.saved.session.session (view.cache.nodes path) → (other ≤ℤ listed → listed ≤ℤ last → ⊥)
      → ShowsStanding view dir kind names listed path token → ⊥
  not_between token other last e made none s =
      none (subst (λ (z : ℤ). z ≤ℤ listed) (same_token token other made s) s.after) (subst (λ (z : ℤ). listed ≤ℤ z) (sym e) s.seen)
