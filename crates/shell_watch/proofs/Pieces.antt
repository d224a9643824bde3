-- A text made of pieces is one text after another, whichever are put together first.
use Rattle.std.proofs.Common.{◌≡◌, ◌++◌, ◌∙◌, ℕ, List, [], ap, append_assoc}
use Rattle.std.specs.Prelude.{Result, Ok, Err, OnOk, is_ok, if◌then◌else◌}

pub three_pieces : {X E : Type 0} (result : Result X E) (before a b c amid after : List ℕ)
    → amid ≡ (before ++ a) ++ b → OnOk result (after ≡ amid ++ c)
    → OnOk result (after ≡ before ++ (a ++ (b ++ c)))
three_pieces (Ok x) before a b c amid after first last =
    last ∙ ap (λ (l : List ℕ). l ++ c) first ∙ append_assoc (before ++ a) b c ∙ append_assoc before a (b ++ c)
three_pieces (Err e) before a b c amid after first last = tt

pub one_piece : {X E : Type 0} (result : Result X E) (before a after : List ℕ) → after ≡ (if is_ok result then before ++ a else before)
    → OnOk result (after ≡ before ++ a)
one_piece (Ok x) before a after is = is
one_piece (Err e) before a after is = tt

pub four_pieces : (t0 t1 t2 t3 t4 a b c d : List ℕ)
    → t0 ≡ [] → t1 ≡ t0 ++ a → t2 ≡ t1 ++ b → t3 ≡ t2 ++ c → t4 ≡ t3 ++ d → t4 ≡ a ++ (b ++ (c ++ d))
four_pieces t0 t1 t2 t3 t4 a b c d none first second third last =
    last ∙ ap (λ (l : List ℕ). l ++ d)
    (third ∙ ap (λ (l : List ℕ). l ++ c) (second ∙ ap (λ (l : List ℕ). l ++ b) (first ∙ ap (λ (l : List ℕ). l ++ a) none)))
    ∙ append_assoc (a ++ b) c d ∙ append_assoc a b (c ++ d)
