-- An object of JSON, piece by piece: each piece adds its bytes to the text and its tokens to the tokens, where none before it has failed.
use Rattle.std.proofs.Common.{◌≡◌, ◌≢◌, ◌++◌, ◌∙◌, ◌∷◌, [], ℕ, Bool, true, false, List, Option, None, Some, codes, refl, ap, append_assoc}
use Rattle.std.specs.Prelude.{pos, Result, Ok, Err, OnOk}
use Rattle.json.specs.Print.{print}
use Rattle.json.specs.Token as json
use Rattle.zk_nodes.specs.Path.{Text}
use Rattle.zk_nodes.specs.declared.side.Side.{Side}
use Rattle.zk_nodes.specs.declared.side.Side.TheVariants.{Data, Child}
use Rattle.zk_cache.specs.Kept.{Answer, Absent, Known, Full, Names}
use Rattle.zk_cache.specs.declared.held.Kept.{Kept}
use Rattle.zk_turns.specs.View.{View}
use Rattle.zk_follow.specs.Following.{is_kept, says_none}
use Rattle.shell_words.specs.Objects.{number_members, text_members}
use Rattle.shell_watch.specs.Lines.{answer_kind, kind_of, kind_where, names_kind, node_kind, object_line}

cons_some : (x : ℕ) (xs : List ℕ) → (x ∷ xs) ≢ []
cons_some x xs is = cc

answer_some : (answer : Answer) → answer_kind answer ≢ []
answer_some Absent = cons_some _ _
answer_some (Known stat) = cons_some _ _
answer_some (Full bytes stat) = cons_some _ _

node_some : (kept : Option (Kept Answer)) → node_kind kept ≢ []
node_some None = cons_some _ _
node_some (Some kept) = answer_some kept.answer

names_some : (kept : Option (Kept Names)) → names_kind kept ≢ []
names_some None = cons_some _ _
names_some (Some kept) = cons_some _ _

where_some : (is_missing : Bool) (side : Side) (path : Text) (view : View) → kind_where is_missing side path view ≢ []
where_some false Child path view = names_some (view.cache.children path)
where_some true Child path view = node_some (view.cache.nodes path)
where_some false Data path view = node_some (view.cache.nodes path)
where_some true Data path view = node_some (view.cache.nodes path)

-- each subject has a line
pub kind_some : (side : Side) (path : Text) (view : View) → kind_of side path view ≢ []
kind_some side path view = where_some (is_kept says_none (view.cache.nodes path)) side path view

-- the line of what was written
pub line_is : (ms : ℕ) (kind : List ℕ) (members tokens : List json.Token) (before line : List ℕ) → kind ≢ [] → before ≡ []
    → tokens ≡ (json.begin_object ∷ (text_members (codes "kind") kind ++ number_members (codes "ms") (pos ms))) ++ members
    → line ≡ before ++ (print (tokens ++ json.end_object ∷ []) ++ 10 ∷ []) → line ≡ object_line ms kind members
line_is ms [] members tokens before line some none are is = absurd (some refl)
line_is ms (k ∷ ks) members tokens before line some none are is =
    is ∙ ap (λ (b : List ℕ). b ++ (print (tokens ++ json.end_object ∷ []) ++ 10 ∷ [])) none
    ∙ ap (λ (t : List json.Token). print (t ++ json.end_object ∷ []) ++ 10 ∷ []) are

-- ---- one piece after another

pub two_puts : {X E : Type 0} (result : Result X E) (b0 b1 b2 : List ℕ) (t0 t1 t2 a b : List json.Token) → b1 ≡ b0 → t1 ≡ t0 ++ a
    → OnOk result ((b2 ≡ b1) × (t2 ≡ t1 ++ b)) → OnOk result ((b2 ≡ b0) × (t2 ≡ t0 ++ (a ++ b)))
two_puts (Ok x) b0 b1 b2 t0 t1 t2 a b same first rest =
    (rest.0 ∙ same, rest.1 ∙ ap (λ (t : List json.Token). t ++ b) first ∙ append_assoc t0 a b)
two_puts (Err e) b0 b1 b2 t0 t1 t2 a b same first rest = tt

-- what is kept, and a piece after it
pub kept_then : {X E : Type 0} (P : List json.Token → Type 0) (result : Result X E) (b0 b1 b2 : List ℕ) (t0 t1 t2 b : List json.Token)
    → (kept : List json.Token) × P kept × (b1 ≡ b0) × (t1 ≡ t0 ++ kept) → OnOk result ((b2 ≡ b1) × (t2 ≡ t1 ++ b))
    → OnOk result ((kept : List json.Token) × P kept × (b2 ≡ b0) × (t2 ≡ t0 ++ (kept ++ b)))
kept_then P (Ok x) b0 b1 b2 t0 t1 t2 b put rest =
    (put.0, put.1, rest.0 ∙ put.2, rest.1 ∙ ap (λ (t : List json.Token). t ++ b) put.3 ∙ append_assoc t0 put.0 b)
kept_then P (Err e) b0 b1 b2 t0 t1 t2 b put rest = tt

-- a piece, and what is kept after it
pub then_kept : {X E : Type 0} (P : List json.Token → Type 0) (result : Result X E) (b0 b1 b2 : List ℕ) (t0 t1 t2 a b : List json.Token)
    → b1 ≡ b0 → t1 ≡ t0 ++ a
    → OnOk result ((kept : List json.Token) × P kept × (b2 ≡ b1) × (t2 ≡ t1 ++ (kept ++ b)))
    → OnOk result ((kept : List json.Token) × P kept × (b2 ≡ b0) × (t2 ≡ t0 ++ (a ++ (kept ++ b))))
then_kept P (Ok x) b0 b1 b2 t0 t1 t2 a b same first put =
    (put.0, put.1, put.2 ∙ same, put.3 ∙ ap (λ (t : List json.Token). t ++ (put.0 ++ b)) first ∙ append_assoc t0 a (put.0 ++ b))
then_kept P (Err e) b0 b1 b2 t0 t1 t2 a b same first put = tt
