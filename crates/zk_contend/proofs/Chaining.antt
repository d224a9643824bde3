-- A walk from a name to the last rival before it, and from that to the last before that one: after some turns it knows who is before the
-- name, and the paths of those that it went to.
use Rattle.std.proofs.Common.{ℕ, suc, ◌+◌, ◌-◌, ◌≡◌, ◌<◌, inl, inr, List, [], ◌∷◌, ◌++◌, Some, None, refl, sym, subst}
use Rattle.std.proofs.Common.{append_assoc, arith}
use Rattle.std.proofs.lemmas.List.{append-nil}
use Rattle.zk_nodes.specs.Path.{Text, Name}
use Rattle.zk_turns.specs.Meaning.{Among}
use Rattle.zk_conclusions.specs.Numbers.{Kind}
use Rattle.zk_conclusions.specs.Predecessors.{IsPredecessor}
use Rattle.zk_conclusions.specs.Standings.{IsFirstOf}
use Rattle.zk_contend.specs.Leases.{AreBefore, IsAmongOf}
use Rattle.zk_contend.specs.Places.{path_in, AreLast, HasNoPath, IsBehindName}
use Rattle.zk_contend.proofs.Leasing.{with_last, without_last, never_more}

module _ (kind : Kind) (names : List Name) (own : Name) where
  abbrev pub AreListed : Name → ℕ → Type 0
  AreListed name count = AreBefore (λ name. Among name names) kind name count

  -- After these turns the walk is at this name.
  pub record IsReached (turns : ℕ) (last : Name) : Type 0 where
    pub more : (count all : ℕ) → turns + count ≡ all → AreListed last count → AreListed own all
    pub fewer : (count all : ℕ) → turns + count ≡ all → AreListed own all → AreListed last count

  pub reached_first : IsReached 0 own
  reached_first = record {
    more = λ count all e are. subst (λ n. AreListed own n) (omega (arith, e)) are;
    fewer = λ count all e are. subst (λ n. AreListed own n) (omega (arith, e)) are;
  }

  pub reached_next : (turns : ℕ) (last name : Name) → IsReached turns last → IsPredecessor kind names last name
      → IsReached (turns + 1) name
  reached_next turns last name at is = record {
    more = λ count all e are. at.more (suc count) all (omega (arith, e)) (with_last kind names last name count is are);
    fewer = λ count all e are. without_last kind names last name count is (at.fewer (suc count) all (omega (arith, e)) are);
  }

  -- all turns were gone
  pub reached_all : (turns most : ℕ) (last : Name) → IsReached turns last → turns ≡ most → AreListed own most
  reached_all turns most last at e = at.more 0 most (omega (arith, e)) tt

  -- no rival is before the name at which it is
  pub reached_end : (turns most : ℕ) (last : Name) → IsReached turns last → turns < most → IsFirstOf kind names last
      → IsAmongOf kind most names own
  reached_end turns most last at less first =
      λ are. never_more kind names last (most - suc turns) first (at.fewer (suc (most - suc turns)) most (omega (arith, less)) are)

  module _ (dir : Text) where
    -- And these are the paths of those to which it went.
    pub record IsChain (turns : ℕ) (last : Name) (behind : List Text) : Type 0 where
      pub at : IsReached turns last
      pub paths : (count all : ℕ) (rest : List Text) → turns + count ≡ all → AreLast dir kind names last count rest
          → AreLast dir kind names own all (behind ++ rest)
      pub none : (count all : ℕ) → turns + count ≡ all → HasNoPath dir kind names last count → HasNoPath dir kind names own all

    pub chain_first : IsChain 0 own []
    chain_first = record {
      at = reached_first;
      paths = λ count all rest e are. subst (λ n. AreLast dir kind names own n rest) (omega (arith, e)) are;
      none = λ count all e has. subst (λ n. HasNoPath dir kind names own n) (omega (arith, e)) has;
    }

    pub chain_next : (turns : ℕ) (last name : Name) (path : Text) (behind : List Text) → IsChain turns last behind
        → IsPredecessor kind names last name → path_in dir name ≡ Some path → IsChain (turns + 1) name (behind ++ path ∷ [])
    chain_next turns last name path behind chain is named = record {
      at = reached_next turns last name chain.at is;
      paths = λ count all rest e are. subst (λ (paths : List Text). AreLast dir kind names own all paths)
          (sym (append_assoc behind (path ∷ []) rest))
          (chain.paths (suc count) all (path ∷ rest) (omega (arith, e)) (name, is, named, are));
      none = λ count all e has. chain.none (suc count) all (omega (arith, e)) (name, is, inr has);
    }

    -- all turns were gone
    pub chain_all : (turns most : ℕ) (last : Name) (behind : List Text) → IsChain turns last behind → turns ≡ most
        → IsBehindName dir kind most names own behind
    chain_all turns most last behind chain e =
        inr (subst (λ (paths : List Text). AreLast dir kind names own most paths) (append-nil behind)
        (chain.paths 0 most [] (omega (arith, e)) tt))

    -- no rival is before the name at which it is, or the name of the last one makes no path
    pub chain_end : (turns most : ℕ) (last : Name) (behind : List Text) → IsChain turns last behind → turns < most
        → IsFirstOf kind names last → IsBehindName dir kind most names own []
    chain_end turns most last behind chain less first = inl (refl, inl (reached_end turns most last chain.at less first))

    pub chain_unnamed : (turns most : ℕ) (last name : Name) (behind : List Text) → IsChain turns last behind → turns < most
        → IsPredecessor kind names last name → path_in dir name ≡ None → IsBehindName dir kind most names own []
    chain_unnamed turns most last name behind chain less is unnamed =
        inl (refl, inr (chain.none (suc (most - suc turns)) most (omega (arith, less)) (name, is, inl unnamed)))
