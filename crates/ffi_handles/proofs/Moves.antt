-- A function that moves the pointer and the allocator of one struct into another, which owns the same, meets what its contract says.
use mathlib.Core.Path.{◌≡◌, refl, sym, subst}
use mathlib.Core.List.{List, [], ◌∷◌, ◌++◌}
use lib.Dec.{T}
use seplogic.Ra.Ura.{Ura}
use mir.Syntax.{Ty, Fn, Callee, Sym, local, value_local, place, field, copy, assign, aggregate, rv_opd, seq, return, impl}
use mir.Syntax.{ty_ptr, ty_struct, tcons, tnil, dnil}
use mir.Val.{Val, vstruct, vcons, vnil, of_list, has_ty, WT}
use base.Logic.{ent, emp}
use base.Fml.{ftrue, fsep}
use prog.Model.{Model}
use prog.Wp.{WpFn, Closed, Tables}
use types.Logic.{Logic, sem}
use contract.Monad.{fact}
use contract.Running.{Running, tables, tables_of}
use types.Kit.{Item, ‵, raw, ◌⊛◌, ◌$◌, ◌∵◌, !, qed, by, move, drop, use1, join, split, fsplit, fjoin, fpick, fpack, feq_l, feq_i}
use types.Kit.{suffices, done}
use types.Part.{whole, sub, agg}
use types.Run.{stop, fld, no_more, and_then, of_opd, returns, enter}
use types.ByLocal.{alloc_all, pass_all, free_all, look_at, get, get_in, sets}
use denote.RattleType.{RattleType, Valss}
use denote.Exit.{Last, yes}
use denote.RawPtr.{Ptr, RawPtr, ptr_val, rawptr_Lawful}
use denote.Signature.{plain}
use denote.Steps.{nothing}
use denote.Struct.Owning.{Owning, row}
use denote.Struct.Struct.{Shape, Struct, within, as_fields}
use denote.Triple.Clauses.{Ended, Clauses, closing}
use denote.Triple.Spec.{Meets}
use denote.Triple.Walked.{says, Silent, Stays, stay_dropped, Walks, walk_of, ends_at, Goes-dropped}
use Rattle.std.proofs.raw_atomic.Walks.{proved_at}
use Rattle.std.specs.declared.alloc.Global.{Global}
use Rattle.core.proofs.alloc.Calls.{Al, α, handle_tells}
use Rattle.std_heap.specs.contracts.Global as Heap
use Rattle.std_heap.specs.contracts.GlobalAllocator.TheImpl.{ghosts, dict}
use Rattle.std_heap.proofs.Global.TheLaws as heap

abbrev al : Al
al = record { row = Heap.the_row; laws = heap.the_row_laws; g = ghosts; d = dict; drops = impl [] tnil dnil }

-- what the two fields own
abbrev shape : Shape
shape = record { name = []; args = []; types = []; fields = RawPtr ∷ Heap.the_row ∷ [] }

abbrev pub Fields : RattleType
Fields = Struct shape

-- ---- the code

abbrev slot_ty : Sym → Ty
slot_ty name = ty_struct name (tcons ty_ptr (tcons (α al) tnil))

abbrev moving : (from to : Sym) → Fn
moving from to = record {
  lifetimes = 0;
  outlives = [];
  ty_params = [];
  givens = 0;
  params = 1;
  locals = local (slot_ty to) value_local ∷ local (slot_ty from) value_local ∷ local ty_ptr value_local ∷ local (α al) value_local ∷ [];
  body = seq (assign (place 2 []) (rv_opd (copy (place 1 (field 0 ∷ [])))))
      (seq (assign (place 3 []) (rv_opd (copy (place 1 (field 1 ∷ [])))))
      (seq (assign (place 0 []) (aggregate (copy (place 2 []) ∷ copy (place 3 []) ∷ []))) return));
}

-- ---- the contract

module _ (From To : Owning) (says_of : From.D → To.D → Type 0) where
  abbrev ended : Ended
  ended = record {
    signature = record { lifetimes = 0; outlives = []; params = plain (λ κs. row From) ∷ []; result = plain (λ κs. row To) };
    kept = (yes, tt);
  }

  abbrev stayed : Stays ended.signature.params ended.kept
  stayed = (stay_dropped (plain (λ κs. row From)) yes, tt)

  abbrev clauses : {M : Type 1} {𝓤 : Ura M} → Clauses 𝓤 ended
  clauses {𝓤 = 𝓤} κs args = record {
    ghost = Unit {0};
    requires = λ ghost. emp 𝓤;
    ensures = λ ghost result end. fact 𝓤 (says_of args.0 result);
  }

  module _ (at : From.D → Ptr) (alloc : From.D → Global) (moved : From.D → To.D) (is : (d : From.D) → says_of d (moved d))
      {M : Type 1} {𝓤 : Ura M} (𝓛 : Logic 𝓤)
      (opens : (d : From.D) (vs : List Val)
      → ent 𝓤 (sem 𝓛 ((row From).own_val d vs)) (sem 𝓛 (fsep (Fields.own_val (at d, (alloc d, tt)) vs) (From.heap d))))
      (shuts : (d : From.D) (vs : List Val)
      → ent 𝓤 (sem 𝓛 (fsep (Fields.own_val (at d, (alloc d, tt)) vs) (From.heap d))) (sem 𝓛 ((row To).own_val (moved d) vs)))
      (gone : (d : From.D) → Last (From.exit yes) d) (silent : Silent 𝓛 0 (plain (λ κs. row From)) yes) where
    open 𝓛 use {H}

    walk : (𝓣 : Tables 𝓤 H) → Walks 𝓛 ended stayed (WpFn 𝓤 H 𝓣.C 𝓣.Λ (moving From.name To.name)) clauses
    walk 𝓣 z =
        let d = z.0.3.0 in let vs = z.0.4.0 in let p = at d in let a = alloc d in
        let fn : Fn = moving From.name To.name in
        let Post = (walk_of 𝓛 ended stayed clauses).post z in
        qed 𝓛 ((‵ ftrue ⊛ ‵ (fsep ((row From).own_val d vs) ftrue)) ∷ raw (emp 𝓤) ∷ []) ∵ split ! $ drop ! $ fsplit ! $
        move ! (1 ∷ 2 ∷ []) $ drop ! $ drop ! $
        use1 𝓛 (‵ (fsep (Fields.own_val (p, (a, tt)) vs) (From.heap d))) (opens d vs) $ fsplit ! $
        fpick ! (λ vss. fsplit ! $ feq_l ! (λ ev. fsplit ! $ feq_l ! (λ ep. fsplit ! $ handle_tells al ! a vss.1.0 (λ hv ea fa.
        move ! (1 ∷ []) $ drop ! $
        let w : Val = vstruct (vcons (ptr_val p) (vcons hv vnil)) in
        let same : vs ≡ w ∷ [] = subst (λ (ws : List Val). vs ≡ vstruct (of_list (ptr_val p ∷ (ws ++ []))) ∷ []) ea
        (subst (λ (ps : List Val). vs ≡ vstruct (of_list (ps ++ (vss.1.0 ++ []))) ∷ []) ep ev) in
        let typed_p : T (has_ty ty_ptr (ptr_val p)) × WT (ptr_val p) = ((rawptr_Lawful 𝓛).typed p (ptr_val p ∷ []) refl).0 in
        let typed : T (has_ty (slot_ty From.name) w) × WT w = as_fields (ty_ptr ∷ α al ∷ []) (ptr_val p ∷ hv ∷ []) (typed_p, (fa, tt)) in
        let Γ : List (Item 𝓤) = ‵ ((Heap.the_row).own_val a (hv ∷ [])) ∷ ‵ (From.heap d) ∷ [] in
        by ! (subst (λ (us : List Val). ent 𝓤 (types.Kit.⋆ 𝓛 Γ) (WpFn 𝓤 H 𝓣.C 𝓣.Λ fn (us ++ []) Post)) (sym same)
        (qed 𝓛 Γ ∵ enter ! 𝓣.C 𝓣.Λ fn (w ∷ []) _ $ alloc_all ! (λ ls. pass_all ! refl (typed, tt) $
        sets ! (of_opd ! (get_in ! (fld ! refl (stop !)) (sub ! 0 refl (whole !)))) refl typed_p $
        sets ! (of_opd ! (get_in ! (fld ! refl (stop !)) (sub ! 1 refl (whole !)))) refl fa $
        sets ! (agg ! (and_then ! (get ! refl) (and_then ! (get ! refl) (no_more !)))) refl typed $
        returns ! (look_at ! 0 refl) $ free_all ! refl $
        nothing ! $ move ! (1 ∷ 0 ∷ []) $ fjoin ! $
        feq_i ! (List Val) (ptr_val p ∷ []) (ptr_val p ∷ []) refl $ fjoin ! $ feq_i ! (List Val) (w ∷ []) (w ∷ []) refl $ fjoin ! $
        fpack ! (Valss (RawPtr ∷ Heap.the_row ∷ [])) (within shape (p, (a, tt)) (w ∷ [])) (ptr_val p ∷ [], (hv ∷ [], tt)) $ fjoin ! $
        use1 𝓛 (‵ ((row To).own_val (moved d) (w ∷ []))) (shuts d (w ∷ [])) $
        suffices ! _ (ends_at 𝓛 ended stayed clauses z w (moved d) (gone d, tt) (tt, tt)) $ says ! (is d) $
        nothing ! $ nothing ! $ fjoin ! $ join ! $ nothing ! $ join ! $ done !)))))))

    pub moves : (𝓜 : Model 𝓤 H) (𝓡 : Running 𝓤 H 𝓜) (name : Callee)
        → Closed 𝓤 H (tables 𝓤 H 𝓜 𝓡 𝓡.env).C (tables 𝓤 H 𝓜 𝓡 𝓡.env).Λ name (moving From.name To.name)
        → Meets 𝓛 ended.signature ((tables 𝓤 H 𝓜 𝓡 𝓡.env).C name) (closing 𝓛 ended clauses)
    unfolding tables_of
    moves 𝓜 𝓡 name closed =
        proved_at 𝓛 ended stayed clauses 𝓜 𝓡 (Goes-dropped 𝓛 0 (plain (λ κs. row From)) yes silent, tt) name
        (moving From.name To.name) closed (λ y are. walk (tables_of 𝓤 H 𝓜 (tables 𝓤 H 𝓜 𝓡 𝓡.env)) y)
