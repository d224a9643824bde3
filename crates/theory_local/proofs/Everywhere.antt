-- The laws of servers that keep to the model, as those at all paths: such servers keep to it at the set of all paths.
use Rattle.std.proofs.Common.{◌≡◌, Bool, true, List, [], map, refl, sym, subst}
use Rattle.zk_nodes.specs.Path.{Text}
use Rattle.zk_nodes.specs.History.{History, IsHistory}
use Rattle.zk_turns.specs.Turns.{Start, Item}
use Rattle.zk_turns.specs.Past.{is_talking, state_of, held_of}
use Rattle.zk_turns.specs.Taken.{past_of}
use Rattle.zk_turns.specs.View.{View}
use Rattle.zk_turns.specs.Rule.{Stands}
use Rattle.zk_laws.specs.Server.{tree_held}
use Rattle.zk_laws.specs.Laws.{AreRestored}
use Rattle.zk_laws.specs.Served.{Entry, items_in, is_going, unread, IsServing, Served}
use Rattle.zk_laws.specs.Headline.{IsTrueOf, IsCoherentWith, IsQuietAt, tree_of}
use Rattle.theory_local.specs.LocalSteps.{IsOf}
use Rattle.theory_local.specs.LocalServed.{wire_at, local_of}
use Rattle.theory_local.specs.LocalHeadline.{IsTrueAt, IsQuietAfter}
use Rattle.theory_local.proofs.Following.{local_items, local_wire, local_serving, local_served, true_everywhere}
use Rattle.theory_local.proofs.Headlines_at.{coherent_at, quiet_at}

-- the set of all paths
abbrev all_paths : Text → Bool
all_paths path = true

module _ (h : History) (is : IsHistory h) (start : Start) where
  pub coherent_everywhere : (items : List Item) (view : View) → Stands start items view → Served h start items → IsCoherentWith h view
  coherent_everywhere items view s served = true_everywhere (IsOf all_paths) _ view.cache (λ path. refl)
      (coherent_at (IsOf all_paths) h is start items view s (local_served h (IsOf all_paths) start items served))

  quiet_local : (entries : List Entry) → IsQuietAt h start entries → IsQuietAfter h start (map local_of entries)
  quiet_local entries quiet = record {
    going = subst (λ items. is_going (past_of start items) ≡ true) (sym (local_items entries)) quiet.going;
    talking = subst (λ items. is_talking (state_of (past_of start items)) ≡ true) (sym (local_items entries)) quiet.talking;
    received = subst (λ wire. wire.coming ≡ []) (sym (local_wire h entries)) quiet.received;
    taken = subst (λ items. held_of (past_of start items) ≡ []) (sym (local_items entries)) quiet.taken;
    restored = subst (λ items. AreRestored
        (map (λ sent. sent.request) (unread start (past_of start items) (wire_at h (map local_of entries))))) (sym (local_items entries))
        (subst (λ wire. AreRestored (map (λ sent. sent.request) (unread start (past_of start (items_in entries)) wire)))
        (sym (local_wire h entries)) quiet.restored);
  }

  pub quiet_everywhere : (entries : List Entry) (view : View) → IsServing h start entries → Stands start (items_in entries) view
      → IsQuietAt h start entries → IsTrueOf (tree_of h entries) view.cache
  quiet_everywhere entries view may s quiet =
      let true_there : IsTrueAt (IsOf all_paths) (tree_held h (wire_at h (map local_of entries)).server.place) view.cache =
      quiet_at (IsOf all_paths) h is start (map local_of entries) view (local_serving h (IsOf all_paths) start entries may)
      (subst (λ items. Stands start items view) (sym (local_items entries)) s) (quiet_local entries quiet) in
      true_everywhere (IsOf all_paths) (tree_of h entries) view.cache (λ path. refl)
      (subst (λ wire. IsTrueAt (IsOf all_paths) (tree_held h wire.server.place) view.cache) (local_wire h entries) true_there)
