-- How a script goes on from line to line, and how it ends.
use Rattle.std.proofs.Common.{◌≡◌, ℕ, suc, ◌+◌, ◌<◌, ◌≤◌, List, [], ◌∷◌, ◌++◌, length, get_or, take, drop, map, refl, sym, ap, ◌∙◌, arith}
use Rattle.std.specs.Borrow.{Bor}
use Rattle.std.specs.List.{FoldsTo}
use Rattle.std.proofs.Math.Seq.{drop-cons}
use Rattle.std.proofs.lemmas.Fn.{FoldsTo-push}
use Rattle.std.proofs.lemmas.List.{map-append, take_more, take_all, take-append-drop, length-take, length-map}
use Rattle.zk_nodes.specs.Path.{Text}
use Rattle.script_words.specs.declared.stop.LineStop.{LineStop}
use Rattle.script_words.specs.declared.stop.LineStop.TheVariants as stops
use Rattle.script_words.specs.Scripts.{Rules, Progress, Prints, PrintsFirst, Goes, IsDue, IsTranscript, progress, end_at}

-- the bytes of lent lines
abbrev texts : List (Bor Text) → List Text
texts lines = map (λ p. p.now) lines

-- one line further
pub further : {S : Type 0} (rules : Rules S) (here : Progress S) (lines : List (Bor Text)) (at : ℕ) (none : Bor Text)
    (old new : Progress S) → at < length lines
    → FoldsTo (Goes rules) here (texts (take at lines)) old → Goes rules old (get_or lines at none).now new
    → FoldsTo (Goes rules) here (texts (take (at + 1) lines)) new
further rules here lines at none old new within taken goes =
    rw (take_more lines at none within, map-append)
    (FoldsTo-push (Goes rules) here (texts (take at lines)) old (get_or lines at none).now new taken goes)

-- all lines
pub all_taken : {S : Type 0} (rules : Rules S) (here : Progress S) (lines : List (Bor Text)) (at : ℕ) (end : S)
    (text : List ℕ) → length lines ≤ at
    → FoldsTo (Goes rules) here (texts (take at lines)) (progress end text) → Prints rules here (texts lines) text
all_taken rules here lines at end text past taken = record { end = end; taken = rw take_all at taken }

-- the lines before one, that one, and those after it
parted : (lines : List (Bor Text)) (at : ℕ) (none : Bor Text) → at < length lines
    → texts lines ≡ texts (take at lines) ++ (get_or lines at none).now ∷ texts (drop (at + 1) lines)
parted lines at none within =
    let one : at + 1 ≡ suc at = omega arith in
    let left : drop at lines ≡ get_or lines at none ∷ drop (at + 1) lines = rw one (drop-cons lines at none within) in
    ap (map (λ p. p.now)) (sym (take-append-drop at lines))
    ∙ (map-append (λ p. p.now) (take at lines) (drop at lines)
    ∙ ap (λ rest. map (λ p. p.now) (take at lines) ++ map (λ p. p.now) rest) left)

-- what stands when the line after those is not done
pub stopped : {S : Type 0} (rules : Rules S) (here : Progress S) (lines : List (Bor Text)) (at : ℕ) (none : Bor Text) (end : S)
    (text : List ℕ) (stop : LineStop)
    → at < length lines → FoldsTo (Goes rules) here (texts (take at lines)) (progress end text)
    → IsDue rules (get_or lines at none).now end stop
    → IsTranscript rules here (texts lines) text (end_at (at + 1) stop)
stopped {S} rules here lines at none end text stop within taken due = go stop due
  where
    prints : Prints rules here (texts (take at lines)) text
    prints = record { end = end; taken = taken }

    go : (s : LineStop) → IsDue rules (get_or lines at none).now end s → IsTranscript rules here (texts lines) text (end_at (at + 1) s)
    go (stops.Refused why) refuses = record {
      before = texts (take at lines);
      line = (get_or lines at none).now;
      behind = texts (drop (at + 1) lines);
      are = parted lines at none within;
      counted = simp (length-map, length-take) (omega arith);
      prints = prints;
      refused = refuses;
    }
    go stops.Halted halts = record {
      before = texts (take at lines);
      line = (get_or lines at none).now;
      behind = texts (drop (at + 1) lines);
      are = parted lines at none within;
      prints = prints;
      halts = halts;
    }
    go stops.Memory _ = record {
      before = texts (take at lines);
      behind = texts (drop at lines);
      are = ap (map (λ p. p.now)) (sym (take-append-drop at lines)) ∙ map-append (λ p. p.now) (take at lines) (drop at lines);
      prints = prints;
    }

-- nothing is what the first lines print
pub none_yet : {S : Type 0} (rules : Rules S) (first : S) (lines : List Text) → PrintsFirst rules (progress first []) lines []
none_yet rules first lines = record { before = []; behind = lines; are = refl; prints = record { end = first; taken = refl } }
