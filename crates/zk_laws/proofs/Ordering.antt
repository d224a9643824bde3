-- The lists of a run are those of the client, in the same order: by induction on the past, as both take the same path in at the same
-- happening.
use Rattle.std.proofs.Common.{◌≡◌, ℕ, Bool, ◌&&◌, List, [], ◌∷◌, ◌++◌, refl, sym, ap, ◌∙◌}
use Rattle.std.specs.Prelude.{not, filter, reverse}
use Rattle.std.proofs.lemmas.List.Elements.{filter_agree}
use Rattle.zk_nodes.specs.Path.{Text}
use Rattle.zk_turns.specs.Turns.{Start}
use Rattle.zk_conversation.specs.Questions.{Question, Exists, GetData, GetChildren}
use Rattle.zk_conversation.specs.Results.{Result}
use Rattle.zk_turns.specs.Past.{Past, Happening, Began, Came, Dropped, Asked, Denied, Pinged, Ticked, Forgot, Skipped, Expiry, path_of_read}
use Rattle.zk_turns.specs.Past.{path_of_reply, arrivals, firsts, in_known, in_missing, in_parents, lists_of, listed as client_list}
use Rattle.zk_turns.specs.Past.{Took as Takes_in, Lost as Loses_it, Halted as Halts_now, Accepted as Accepts, Replies as Answers_call}
use Rattle.zk_turns.specs.Past.{Watches_set as Sets_watches, Notifies as Tells, Pong as Echo}
use Rattle.zk_watches.specs.Parts.{parts}
use Rattle.zk_turns.proofs.Lists.{grows, Tracks}
use Rattle.zk_turns.proofs.Registered.{tracks_known, tracks_missing, tracks_parents}
use Rattle.zk_laws.proofs.Log.{Item, Took, Kind, Of_data, Of_absence, Of_children, is_kind, paths_in, listed, AreParts}
use Rattle.zk_laws.specs.Messages.{Replies, from_zero}
use Rattle.zk_laws.proofs.Seen.{seen, item_of}
use Rattle.zk_laws.proofs.Parting.{kind_known, kind_missing, kind_parents, parts_known, parts_missing, parts_parents}

-- ---- the lists

paths_same : (q : Question) (z : ℕ) (r : Result) → paths_in (Took (Replies q z r)) ≡ path_of_read q
paths_same (Exists p w) z r = refl
paths_same (GetData p w) z r = refl
paths_same (GetChildren p w) z r = refl
paths_same _ z r = refl

one_path : (q : Question) (a b : Text) (more : List Text) → path_of_read q ≡ a ∷ b ∷ more → ⊥
one_path (Exists p w) a b more e = cc
one_path (GetData p w) a b more e = cc
one_path (GetChildren p w) a b more e = cc
one_path _ a b more e = cc

module _ (start : Start) (kind : Kind) (is_in : Text → Past → Bool) (tracks : Tracks is_in)
    (same : (past : Past) (path : Text) → is_kind kind path (seen start past) ≡ is_in path past) where
  with_item : (x : Happening) (past : Past) (item : Item) → seen start (x ∷ past) ≡ item ∷ seen start past → paths_in item ≡ path_of_reply x
      → ((a b : Text) (more : List Text) → path_of_reply x ≡ a ∷ b ∷ more → ⊥) → listed kind (seen start past) ≡ client_list is_in past
      → listed kind (item ∷ seen start past) ≡ client_list is_in (x ∷ past)
  with_item x past item whole paths one ih =
      let now : (q : Text) → is_kind kind q (item ∷ seen start past) ≡ is_in q (x ∷ past) =
      λ q. ap (λ l. is_kind kind q l) (sym whole) ∙ same (x ∷ past) q in
      ap (λ l. filter (λ q. is_kind kind q (item ∷ seen start past)) l
      ++ filter (λ q. is_kind kind q (item ∷ seen start past) && not (is_kind kind q (seen start past))) (paths_in item)) ih
      ∙ ap (λ l. filter (λ q. is_kind kind q (item ∷ seen start past)) (client_list is_in past)
      ++ filter (λ q. is_kind kind q (item ∷ seen start past) && not (is_kind kind q (seen start past))) l) paths
      ∙ ap (λ l. l ++ filter (λ q. is_kind kind q (item ∷ seen start past) && not (is_kind kind q (seen start past))) (path_of_reply x))
      (filter_agree (λ q. is_kind kind q (item ∷ seen start past)) (λ q. is_in q (x ∷ past)) now (client_list is_in past))
      ∙ ap (λ l. filter (λ q. is_in q (x ∷ past)) (client_list is_in past) ++ l)
      (filter_agree (λ q. is_kind kind q (item ∷ seen start past) && not (is_kind kind q (seen start past)))
      (λ q. is_in q (x ∷ past) && not (is_in q past)) (λ q. ap (λ b. b && not (is_kind kind q (seen start past))) (now q)
      ∙ ap (λ b. is_in q (x ∷ past) && not b) (same past q)) (path_of_reply x))
      ∙ sym (grows (λ q. is_in q past) (λ q. is_in q (x ∷ past)) (path_of_reply x) (arrivals is_in past) one
      (λ q h e. tracks.by_reply q x past h e))

  -- what leaves no item and is no reply changes no list
  plain : (x : Happening) (past : Past) → item_of x ≡ [] → path_of_reply x ≡ [] → client_list is_in (x ∷ past) ≡ client_list is_in past
  plain x past no_item no_path =
      ap (λ ps. reverse (filter (λ q. is_in q (x ∷ past))
      (firsts (filter (λ q. is_in q (x ∷ past) && not (is_in q past)) ps ++ arrivals is_in past)))) no_path
      ∙ ap reverse (filter_agree (λ q. is_in q (x ∷ past)) (λ q. is_in q past) (λ q. sym (same (x ∷ past) q)
      ∙ ap (λ items. is_kind kind q (items ++ seen start past)) no_item ∙ same past q) (firsts (arrivals is_in past)))

  pub listed_here : (past : Past) → listed kind (seen start past) ≡ client_list is_in past
  listed_here [] = refl
  listed_here (Takes_in (Answers_call t q z r) ∷ past) = with_item (Takes_in (Answers_call t q z r)) past
      (Took (Replies q (from_zero z) r)) refl (paths_same q (from_zero z) r) (λ a b more e. one_path q a b more e) (listed_here past)
  listed_here (Takes_in (Accepts w) ∷ past) = with_item (Takes_in (Accepts w)) past _ refl refl (λ a b more e. cc) (listed_here past)
  listed_here (Takes_in Expiry ∷ past) = with_item (Takes_in Expiry) past _ refl refl (λ a b more e. cc) (listed_here past)
  listed_here (Takes_in (Sets_watches b z) ∷ past) =
      with_item (Takes_in (Sets_watches b z)) past _ refl refl (λ a b more e. cc) (listed_here past)
  listed_here (Takes_in (Tells e p) ∷ past) = with_item (Takes_in (Tells e p)) past _ refl refl (λ a b more e. cc) (listed_here past)
  listed_here (Takes_in Echo ∷ past) = with_item (Takes_in Echo) past _ refl refl (λ a b more e. cc) (listed_here past)
  listed_here (Takes_in Skipped ∷ past) = listed_here past ∙ sym (plain (Takes_in Skipped) past refl refl)
  listed_here (Began ∷ past) = with_item Began past _ refl refl (λ a b more e. cc) (listed_here past)
  listed_here (Dropped f ∷ past) = with_item (Dropped f) past _ refl refl (λ a b more e. cc) (listed_here past)
  listed_here (Loses_it ∷ past) = with_item Loses_it past _ refl refl (λ a b more e. cc) (listed_here past)
  listed_here (Forgot ∷ past) = with_item Forgot past _ refl refl (λ a b more e. cc) (listed_here past)
  listed_here (Halts_now ∷ past) = with_item Halts_now past _ refl refl (λ a b more e. cc) (listed_here past)
  listed_here (Came b ∷ past) = listed_here past ∙ sym (plain (Came b) past refl refl)
  listed_here (Asked t q ∷ past) = listed_here past ∙ sym (plain (Asked t q) past refl refl)
  listed_here (Denied t w ∷ past) = listed_here past ∙ sym (plain (Denied t w) past refl refl)
  listed_here (Pinged ∷ past) = listed_here past ∙ sym (plain Pinged past refl refl)
  listed_here (Ticked m ∷ past) = listed_here past ∙ sym (plain (Ticked m) past refl refl)

pub listed_known : (start : Start) (past : Past) → listed Of_data (seen start past) ≡ (lists_of past).data_watches
listed_known start past = listed_here start Of_data in_known tracks_known (λ p path. kind_known start p path) past

pub listed_missing : (start : Start) (past : Past) → listed Of_absence (seen start past) ≡ (lists_of past).exist_watches
listed_missing start past = listed_here start Of_absence in_missing tracks_missing (λ p path. kind_missing start p path) past

pub listed_parents : (start : Start) (past : Past) → listed Of_children (seen start past) ≡ (lists_of past).child_watches
listed_parents start past = listed_here start Of_children in_parents tracks_parents (λ p path. kind_parents start p path) past

-- The client's parts are parts of the lists of the run.
pub are_parts : (start : Start) (past : Past) → AreParts (seen start past) (parts (lists_of past))
are_parts start past = record {
  data_watches = parts_known (lists_of past) ∙ sym (listed_known start past);
  exist_watches = parts_missing (lists_of past) ∙ sym (listed_missing start past);
  child_watches = parts_parents (lists_of past) ∙ sym (listed_parents start past);
}
