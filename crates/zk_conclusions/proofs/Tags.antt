-- The nodes that a session made under one tag: of the names with the tag there is a least, found name by name, and each node that was lost
-- is listed.
use Rattle.std.proofs.Common.{ℕ, ◌≡◌, ◌≤◌, ◌⊎◌, inl, inr, Bool, true, false, List, [], ◌∷◌, refl, sym, subst, suc, length, take, arith}
use Rattle.zk_turns.specs.Meaning.{Among}
use Rattle.zk_nodes.specs.Path.{Name}
use Rattle.zk_nodes.specs.History.{tree_at}
use Rattle.zk_conclusions.specs.Numbers.{is_before}
use Rattle.zk_conclusions.specs.Standings.{IsFirstAmong}
use Rattle.zk_conclusions.specs.Tags.{has_tag, IsLeastOf, LostAreListed}
use Rattle.zk_conclusions.specs.inner.Predecessors.{name_at}
use Rattle.zk_conclusions.proofs.Made.{made_before}
use Rattle.zk_conclusions.proofs.Stays.{is_there, is_made}
use Rattle.zk_conclusions.proofs.Numbered.{before_trans, never_before}
use Rattle.zk_conclusions.proofs.Later.{one_more, name_among, taken_all, none_taken}

pub lost_are_listed : LostAreListed
lost_are_listed h dir tag session answered listed seen names is made all le later name node there tagged owner =
    let early : node.czxid ≤ answered = made seen name node there tagged owner in
    let small : node.czxid ≤ listed = omega arith in
    all name (is_there node.czxid (tree_at h listed (name ∷ dir))
    (made_before h (name ∷ dir) node.czxid listed seen is later small (is_made (tree_at h seen (name ∷ dir)) node there)))

not_both : (b : Bool) → b ≡ true → b ≡ false → ⊥
not_both b e f = absurd cc

-- Of some names those with the tag have a least, if there is one.
pub exists_least : (tag : Name) (names : List Name)
    → ((name : Name) → Among name names → has_tag tag name ≡ false) ⊎ ((least : Name) × IsLeastOf names tag least)
exists_least tag [] = inl (λ name there. absurd there)
exists_least tag (one ∷ more) = go (has_tag tag one) refl (exists_least tag more)
  where
    alone : has_tag tag one ≡ true → ((name : Name) → Among name more → has_tag tag name ≡ true → is_before name one ≡ false)
        → IsLeastOf (one ∷ more) tag one
    alone t rest = record {
      among = inl refl;
      tagged = t;
      first = λ name there tagged.
          elim there [ inl e ↦ subst (λ (n : Name). is_before n one ≡ false) (sym e) (never_before one) | inr h ↦ rest name h tagged ];
    }

    still : (least : Name) → IsLeastOf more tag least → (has_tag tag one ≡ true → is_before one least ≡ false)
        → IsLeastOf (one ∷ more) tag least
    still least is f = record {
      among = inr is.among;
      tagged = is.tagged;
      first = λ name there tagged. elim there [
        | inl e ↦ subst (λ (n : Name). is_before n least ≡ false) (sym e) (f (subst (λ (n : Name). has_tag tag n ≡ true) e tagged))
        | inr h ↦ is.first name h tagged
      ];
    }

    before : (least : Name) → IsLeastOf more tag least → is_before one least ≡ true → (name : Name)
        → Among name more → has_tag tag name ≡ true → is_before name one ≡ false
    before least is e name h tagged = case (is_before name one) refl
      where
        case : (b : Bool) → is_before name one ≡ b → b ≡ false
        case false f = refl
        case true f = absurd (not_both (is_before name least) (before_trans name one least f e) (is.first name h tagged))

    choose : has_tag tag one ≡ true → (least : Name) → IsLeastOf more tag least → (b : Bool)
        → is_before one least ≡ b → (found : Name) × IsLeastOf (one ∷ more) tag found
    choose t least is true e = (one, alone t (before least is e))
    choose t least is false e = (least, still least is (λ k. e))

    go : (b : Bool) → has_tag tag one ≡ b
        → ((name : Name) → Among name more → has_tag tag name ≡ false) ⊎ ((least : Name) × IsLeastOf more tag least)
        → ((name : Name) → Among name (one ∷ more) → has_tag tag name ≡ false) ⊎ ((least : Name) × IsLeastOf (one ∷ more) tag least)
    go false t (inl none) =
        inl (λ name there. elim there [ inl e ↦ subst (λ (n : Name). has_tag tag n ≡ false) (sym e) t | inr h ↦ none name h ])
    go false t (inr found) = inr (found.0, still found.0 found.1 (λ k. absurd (not_both (has_tag tag one) k t)))
    go true t (inl none) = inr (one, alone t (λ name h tagged. absurd (not_both (has_tag tag name) tagged (none name h))))
    go true t (inr found) = inr (choose t found.0 found.1 (is_before one found.0) refl)

-- None of the first names is the least.
abbrev pub NoLeast : List Name → Name → ℕ → Type 0
NoLeast names tag count =
    (name : Name) → Among name (take count names) → (has_tag tag name ≡ true) × IsFirstAmong (has_tag tag) names name → ⊥

pub no_least_yet : (names : List Name) (tag : Name) → NoLeast names tag 0
no_least_yet names tag name there least = none_taken names name there

pub no_least_still : (names : List Name) (tag : Name) (count : ℕ) → suc count ≤ length names → NoLeast names tag count
    → ((has_tag tag (name_at names count) ≡ true) × IsFirstAmong (has_tag tag) names (name_at names count) → ⊥)
    → NoLeast names tag (suc count)
no_least_still names tag count lt none not name there least = elim (one_more names count name (omega arith) there) [
  | inl old ↦ none name old least
  | inr new ↦ not (subst (λ (n : Name). (has_tag tag n ≡ true) × IsFirstAmong (has_tag tag) names n) new least)
]

-- then none has the tag
pub none_tagged : (names : List Name) (tag : Name) (count : ℕ) → length names ≤ count → NoLeast names tag count → (name : Name)
    → Among name names → has_tag tag name ≡ false
none_tagged names tag count le none = elim (exists_least tag names) [
  | inl free ↦ free
  | inr found ↦ absurd (none found.0 (taken_all names count found.0 le found.1.among) (found.1.tagged, found.1.first))
]

pub least_here : (names : List Name) (tag : Name) (place : ℕ)
    → suc place ≤ length names → (has_tag tag (name_at names place) ≡ true) × IsFirstAmong (has_tag tag) names (name_at names place)
    → IsLeastOf names tag (name_at names place)
least_here names tag place lt is = record { among = name_among names place (omega arith); tagged = is.0; first = is.1 }
