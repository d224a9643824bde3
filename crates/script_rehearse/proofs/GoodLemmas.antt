-- Names that are kept, and those that a history tells: both are in the order of bytes, so they are the same where one by one they are; and
-- what is printed of a path, its data before its names.
use Rattle.std.proofs.Common.{◌≡◌, ◌≢◌, ℕ, ◌+◌, ◌≤◌, Bool, true, false, List, [], ◌∷◌, ◌++◌, length, map, drop, OnOk, refl, sym, ap, ◌∙◌}
use Rattle.std.proofs.Common.{arith}
use Rattle.std.proofs.Common.{append_assoc}
use Rattle.std.proofs.lemmas.Bool.{true≢false}
use Rattle.std.proofs.lemmas.Cmp.{nat_list_cmp_total}
use Rattle.std.proofs.lemmas.List.{length-drop}
use Rattle.std.proofs.lemmas.Map.Lookups.{btree_set_from_contains, exact_bytes}
use Rattle.std.proofs.Math.ListN.{drop_of_length-le}
use Rattle.std.specs.Prelude.{String, string_bytes, IsTrue, ◌↔◌, Some, slice_get, Result, Ok, Err}
use Rattle.std.specs.BTreeSet.{BTreeSet, contains_text, IsOrdered}
use Rattle.std.specs.FinSet as set
use Rattle.std.specs.List.Sorted.{IsStrictlySortedBy}
use Rattle.std.specs.String.{string_cmp}
use Rattle.zk_nodes.specs.Names.{name_cmp}
use Rattle.zk_nodes.specs.Path.{Text}
use Rattle.zk_nodes.specs.declared.side.Side.TheVariants.{Data, Child}
use Rattle.zk_history.specs.HistoryView.{HistoryView}
use Rattle.zk_history.specs.Shown.{names_told}
use Rattle.zk_nodes.specs.declared.names.Names.{Names}
use Rattle.zk_nodes.proofs.NamesLemmas.{contains-names_of}
use Rattle.zk_cache.specs.Contents.{names_in}
use Rattle.zk_cache.specs.declared.children.Children.{Children}
use Rattle.zk_turns.specs.View.{View}
use Rattle.script_words.proofs.NamesLemmas.{sorted_map}
use Rattle.script_replay.proofs.SetLemmas.{drop_found, first_left}
use Rattle.script_rehearse.specs.Good.{data_verdict, AgreesNames, HasNames, TellsPath}
use Rattle.script_rehearse.specs.inner.Good.{TellsVerdict}

-- ---- the loop over the texts: they are the names exactly where those that are left are

module _ (names texts : List (List ℕ)) where
  -- the names from the index on are the texts that are left
  abbrev pub AreLeft : ℕ → List (List ℕ) → Type 0
  AreLeft index rest = (names ≡ texts) ↔ (drop index names ≡ rest)

  -- the text that comes is the name there
  pub one_more : (index : ℕ) (text : List ℕ) (others rest : List (List ℕ)) → slice_get names index ≡ Some text → others ≡ text ∷ rest
      → AreLeft index others → AreLeft (index + 1) rest
  one_more index text others rest is come left =
      let next = drop_found names index text (sym is) in (
        (λ same. ap (drop 1) (sym next ∙ left.0 same ∙ come)),
        (λ same. left.1 (next ∙ ap (λ (after : List (List ℕ)). text ∷ after) same ∙ sym come)),
      )

  -- the text that comes is not the name there
  pub one_other : (index : ℕ) (text : List ℕ) (others rest : List (List ℕ)) → (slice_get names index ≡ Some text → ⊥)
      → others ≡ text ∷ rest → AreLeft index others → IsTrue false ↔ (names ≡ texts)
  one_other index text others rest other come left = (
    (λ yes. absurd (true≢false (sym yes))),
    (λ same. absurd (other (first_left names index text rest (left.0 same ∙ come)))),
  )

  -- no text is left: it depends on whether a name is
  pub none_more : (index count : ℕ) (is_end : Bool) (others : List (List ℕ)) → index ≤ length names → count ≡ length names
      → IsTrue is_end ↔ (index ≡ count) → others ≡ [] → AreLeft index others → IsTrue is_end ↔ (names ≡ texts)
  none_more index count is_end others within counted end none left = (
    (λ yes. left.1 (drop_of_length-le names (omega (arith, end.0 yes, counted)) ∙ sym none)),
    (λ same. end.1 (omega (arith, within, counted, sym (length-drop index names) ∙ ap length (left.0 same ∙ none)))),
  )

-- names in order are those that a set of texts has exactly where they are the texts
pub names_are : {A : Type 0} (kept : List (List ℕ)) (told : BTreeSet (String A)) (is : Bool) → IsStrictlySortedBy name_cmp kept
    → IsOrdered string_cmp told → IsTrue is ↔ (kept ≡ map string_bytes told.keys)
    → IsTrue is ↔ HasNames (set.from_list kept) (contains_text told)
names_are kept told is sorted ordered same =
    let texts = map string_bytes told.keys in (
      (λ yes name. ap (λ (names : List (List ℕ)). set.contains (set.from_list {R = name_cmp} names) name) (same.0 yes)
          ∙ contains-names_of told name),
      (λ has. same.1
          (btree_set_from_contains nat_list_cmp_total (record { keys = kept }) (record { keys = texts }) sorted
          (sorted_map string_bytes name_cmp told.keys ordered)
          (λ name.
          sym (set.contains-from_list nat_list_cmp_total kept name) ∙ has name ∙ sym (contains-names_of told name)
          ∙ set.contains-from_list nat_list_cmp_total texts name)
          exact_bytes)),
    )

-- where the zxid is the same, the names decide
pub both_same : {A : Type 0} (kept : Children A) (told : Names A) (same : Bool)
    → kept.pzxid ≡ told.pzxid → IsTrue same ↔ HasNames (set.from_list kept.names) (contains_text told.names)
    → AgreesNames (names_in kept) (names_told (Some told)) same
both_same kept told same zxid names = ((λ yes. (names.0 yes, zxid)), (λ are. names.1 are.0))

-- where it is another, they differ
pub other_zxid : {A : Type 0} (kept : Children A) (told : Names A)
    → kept.pzxid ≢ told.pzxid → AgreesNames (names_in kept) (names_told (Some told)) false
other_zxid kept told other = ((λ yes. absurd (true≢false (sym yes))), (λ are. absurd (other are.1)))

-- data before names
pub both_sides : {X E : Type 0} (r : Result X E) (client : View) (history : HistoryView) (path : Text) (before between after : List ℕ)
    → (told : List ℕ) × TellsVerdict Data client history path told × (between ≡ before ++ told)
    → OnOk r ((told : List ℕ) × TellsVerdict Child client history path told × (after ≡ between ++ told))
    → OnOk r ((told : List ℕ) × TellsPath client history path told × (after ≡ before ++ told))
both_sides (Ok x) client history path before between after first second =
    let line = data_verdict client history path in (
      line ++ second.0,
      (second.0, second.1, refl),
      second.2 ∙ (ap (λ text. text ++ second.0) (first.2 ∙ ap (λ told. before ++ told) first.1) ∙ append_assoc before line second.0),
    )
both_sides (Err e) client history path before between after first second = tt
