-- What `watch` says of itself over benches that it dials agrees with their history: it is what `linked_watch_agrees` and
-- `linked_end_agrees` speak of.
use Rattle.std.proofs.Common.{ℕ, Bool, List, Option, inl, inr}
use Rattle.zk_nodes.specs.Path.{Text}
use Rattle.zk_nodes.specs.History.{IsHistory}
use Rattle.zk_nodes.specs.declared.side.Side.{Side}
use Rattle.zk_history.specs.HistoryView.{history_of}
use Rattle.zk_bench_dial.specs.Lines.{bench_end, PastView}
use Rattle.shell_watch.specs.declared.plan.Style.{Style}
use Rattle.shell_watch.specs.Watching.{IsPrinted, IsWatched}
use Rattle.theory_shown.specs.Linked.{PrintsPast, WatchesPast}
use Rattle.theory_shown.proofs.Linked.{linked_end_agrees, linked_watch_agrees, watch_meets}

pub prints_past : (A : Type 0) (past : PastView) → IsHistory (history_of past.history) → (style : Style) (aims : List (Side × Text))
    (roots : List Text) (most : ℕ) (text : List ℕ) → IsPrinted A (bench_end past) style aims roots most text
    → PrintsPast A past style aims roots most text
prints_past A past is style aims roots most text (inl none) = inl none
prints_past A past is style aims roots most text (inr printed) = inr (record {
  first = printed.0;
  begun = printed.1;
  from = printed.2;
  stood = printed.3;
  meets = watch_meets A past is style roots most aims printed.0 text printed.1 printed.2;
  coheres = linked_watch_agrees A past is style roots most aims printed.0 text printed.1 printed.2;
})

pub watches_past : (A : Type 0) (past : PastView) → IsHistory (history_of past.history) → (style : Style) (aims : List (Side × Text))
    (roots : List Text) (most : ℕ) (for_ms : Option ℕ) (text : List ℕ) (is_accepted : Bool)
    → IsWatched A (bench_end past) style aims roots most for_ms text is_accepted
    → WatchesPast A past style aims roots most for_ms text is_accepted
watches_past A past is style aims roots most for_ms text is_accepted watched =
    let agrees = linked_end_agrees A past is style roots most aims for_ms watched.0 text is_accepted watched.1 watched.2 in
    record { watched = watched; coheres = agrees.0; closes = agrees.1 }
