-- The good answers of a client that servers of the laws have served agree with the history: path by path, what is good fits the tree at the
-- last seen zxid, so no line says that it differs.
use Rattle.std.proofs.Common.{◌≡◌, ℕ, ℤ, pos, negsuc, true, ◌&&◌, List, [], ◌∷◌, ◌++◌, refl, sym, ap, ap₂, subst, ◌∙◌}
use Rattle.std.proofs.lemmas.Slice.Eq.{bytes_eq-Decides}
use Rattle.std.specs.Prelude.{Option, Some, None, Ok}
use Rattle.zk_nodes.specs.Path.{Text}
use Rattle.zk_nodes.specs.History.{View as Sight, Absence, Contents, Children, tree_at}
use Rattle.zk_history.specs.HistoryView.{HistoryView as History, history_of, natural}
use Rattle.zk_nodes.specs.declared.data_stat.DataStat.{DataStat}
use Rattle.zk_nodes.specs.declared.side.Side.TheVariants.{Data, Child}
use Rattle.zk_cache.specs.Kept.{Answer, Absent, Known, Full, Names, same_fields}
use Rattle.zk_cache.specs.declared.held.Kept.{Kept}
use Rattle.zk_cache.specs.declared.held.Mark.{Mark}
use Rattle.zk_cache.specs.declared.held.Mark.TheVariants.{Good, Stale}
use Rattle.zk_turns.specs.View.{View}
use Rattle.script_words.specs.Pieces.{words_of}
use Rattle.script_words.specs.Said.{DoesSome}
use Rattle.zk_laws.specs.Messages.{from_zero}
use Rattle.zk_laws.specs.Server.{Fits, FitsNames}
use Rattle.zk_laws.specs.Headline.{IsCoherentWith, IsTrueOf}
use Rattle.zk_laws.proofs.AnswerMoves.{fields_eq-refl}
use Rattle.theory_serving.proofs.Views.{good_session}
use Rattle.zk_bench.specs.Stepping.{shown_of}
use Rattle.script_rehearse.specs.BenchLines.{GoodLine}
use Rattle.script_rehearse.specs.RehearseLines.{RehearseValue, BenchValueLine, says_at}
use Rattle.script_rehearse.specs.Good.{agrees, AreSame, same_content, sight, if_good, verdict_line, kept_verdict, agreeing, agreeing_path}
use Rattle.script_rehearse.specs.Good.{agreeing_paths, TellsNamesLine, TellsKeptNames, TellsPath, TellsPaths}
use Rattle.script_rehearse.specs.Scenes.{Scene, TellsGood, TellsAgreeing}
use Rattle.script_rehearse.specs.inner.Coherent.{IsServed}
use Rattle.script_rehearse.specs.Rehearsed.{Position, Told, Staged, Does, TakesLine, Agrees}
use Rattle.script_rehearse.specs.inner.Rehearsed.{IsServedAt}

-- One answer

content_itself : (content : Option (List ℕ)) → same_content content content ≡ true
content_itself None = refl
content_itself (Some bytes) = (bytes_eq-Decides bytes bytes).1 refl

fields_agree : (kept told : DataStat) → kept ≡ told → same_fields kept told ≡ true
fields_agree kept told same = ap (same_fields kept) (sym same) ∙ fields_eq-refl kept

-- an answer that is what there is to see is said to agree
fits_agrees : (answer : Answer) (told : Sight) → Fits answer told → agrees answer told ≡ true
fits_agrees Absent Absence fits = refl
fits_agrees (Known kept) (Contents content stat) fits = fields_agree kept stat fits
fits_agrees (Full bytes kept) (Contents content stat) fits =
    ap₂ ◌&&◌ (ap (same_content bytes) (sym fits.0) ∙ content_itself bytes) (fields_agree kept stat fits.1)
fits_agrees Absent (Contents content stat) fits = absurd fits
fits_agrees Absent (Children is_name pzxid) fits = absurd fits
fits_agrees (Known kept) Absence fits = absurd fits
fits_agrees (Known kept) (Children is_name pzxid) fits = absurd fits
fits_agrees (Full bytes kept) Absence fits = absurd fits
fits_agrees (Full bytes kept) (Children is_name pzxid) fits = absurd fits

-- so are names
fits_names : (names : Names) (told : Sight) → FitsNames names told → AreSame names told
fits_names names Absence fits = absurd fits
fits_names names (Contents content stat) fits = absurd fits
fits_names names (Children is_name pzxid) fits = (fits.1, fits.0)

-- the line of data
data_agrees : (kept : Option (Kept Answer)) (path : Text) (told : Sight)
    → ((one : Kept Answer) → kept ≡ Some one → one.mark ≡ Good → Fits one.answer told)
    → kept_verdict kept path told ≡ agreeing Data kept path
data_agrees None path told fits = refl
data_agrees (Some one) path told fits = by one.mark (λ good. fits one refl good)
  where
    by : (mark : Mark) → (mark ≡ Good → Fits one.answer told)
        → if_good mark (verdict_line Data path (agrees one.answer told)) ≡ if_good mark (verdict_line Data path true)
    by Good fit = ap (verdict_line Data path) (fits_agrees one.answer told (fit refl))
    by Stale fit = refl

-- the line of names
names_agree : (kept : Option (Kept Names)) (path : Text) (told : Sight) (text : List ℕ)
    → ((one : Kept Names) → kept ≡ Some one → one.mark ≡ Good → FitsNames one.answer told)
    → TellsKeptNames kept path told text → text ≡ agreeing Child kept path
names_agree None path told text fits tells = tells
names_agree (Some one) path told text fits tells = by one.mark (λ good. fits one refl good) tells
  where
    by : (mark : Mark) → (mark ≡ Good → FitsNames one.answer told)
        → TellsNamesLine mark one.answer path told text → text ≡ if_good mark (verdict_line Child path true)
    by Good fit line = line.2 ∙ ap (verdict_line Child path) (line.1.1 (fits_names one.answer told (fit refl)))
    by Stale fit line = line

-- All answers

same_number : (zxid : ℤ) → from_zero zxid ≡ natural zxid
same_number (pos n) = refl
same_number (negsuc n) = refl

module _ (client : View) (history : History) (coherent : IsCoherentWith (history_of history) client) where
  true_here : IsTrueOf (tree_at (history_of history) (natural client.saved.last)) client.cache
  true_here = subst (λ (zxid : ℕ). IsTrueOf (tree_at (history_of history) zxid) client.cache) (same_number client.saved.last) coherent

  path_agrees : (path : Text) (text : List ℕ) → TellsPath client history path text → text ≡ agreeing_path client path
  path_agrees path text tells =
      let data_line = data_agrees (client.cache.nodes path) path (sight Data client history path) (true_here.nodes path) in
      let names_line =
      names_agree (client.cache.children path) path (sight Child client history path) tells.0 (true_here.children path) tells.1 in
      tells.2 ∙ ap₂ ◌++◌ data_line names_line

  paths_agree : (paths : List Text) (text : List ℕ) → TellsPaths client history paths text → text ≡ agreeing_paths client paths
  paths_agree [] text tells = tells
  paths_agree (path ∷ paths) text tells = tells.4 ∙ ap₂ ◌++◌ (path_agrees path tells.0 tells.2) (paths_agree paths tells.1 tells.3)

-- what is printed of the good answers says of each that it agrees
good_agrees : (scene : Scene) (text : List ℕ) → IsServed scene → TellsGood scene text → TellsAgreeing scene text
good_agrees scene text s g = record {
  each = g.each;
  are = g.are;
  told = paths_agree scene.view scene.bench.history (good_session scene.view (shown_of scene.bench) g.history s.served) g.each text g.told;
}

-- so it is at a line of a rehearsal
pub line_agrees : (line : Text) (old new : Position) (text : List ℕ) → TakesLine line old new text → IsServedAt old → Agrees line old text
line_agrees line (Told told) new text t served = tt
line_agrees line (Staged scene) new text t served = λ says. by t.what new t.does t.says says
  where
    here : (to : Position) → DoesSome (Does line) (Some (BenchValueLine GoodLine)) (Staged scene) to text → TellsAgreeing scene text
    here (Staged after) does = good_agrees scene text served does.1
    here (Told told) does = absurd does

    by : (what : Option RehearseValue) (to : Position) → DoesSome (Does line) what (Staged scene) to text
        → says_at (words_of line) true ≡ Ok what → says_at (words_of line) true ≡ Ok (Some (BenchValueLine GoodLine))
        → TellsAgreeing scene text
    by what to does first second = here to
        (subst (λ (said : Option RehearseValue). DoesSome (Does line) said (Staged scene) to text) (same_said what first second) does)
      where
        same_said : (said : Option RehearseValue) → says_at (words_of line) true ≡ Ok said
            → says_at (words_of line) true ≡ Ok (Some (BenchValueLine GoodLine)) → said ≡ Some (BenchValueLine GoodLine)
        same_said said a b = cc
