-- The parts of setWatches, joined, are the lists, and each path that is good stands in one: each part takes watches from the front, so no
-- watch is lost.
use Rattle.std.proofs.Common.{◌≡◌, ℕ, ◌+◌, Bool, true, false, cond, List, [], ◌∷◌, ◌++◌, map, Option, Some, None, refl, sym, ap, ◌∙◌}
use Rattle.std.proofs.Common.{append_assoc}
use Rattle.std.specs.Prelude.{is_some, nat_le}
use Rattle.std.specs.List.{flat_map}
use Rattle.std.proofs.lemmas.List.{append-nil}
use Rattle.zk_nodes.specs.Path.{Text}
use Rattle.zk_turns.specs.Turns.{Start}
use Rattle.zk_turns.specs.Past.{Past, kept_data, kept_names, still_said, word_data, in_known, in_missing, in_parents}
use Rattle.zk_turns.proofs.Marked.{AgreesWith}
use Rattle.zk_watches.specs.Lists.{Lists, no_lists}
use Rattle.zk_watches.specs.Parts.{Watch, OnData, OnExist, OnChild, watches_of, weight_of, put_first, into_first, rest_of_parts}
use Rattle.zk_watches.specs.Parts.{parts_of_watches, parts}
use Rattle.zk_cache.specs.Kept.{is_marked_good, Answer as Kept_answer, Absent as Kept_absent, Known as Kept_known, Full as Kept_full}
use Rattle.zk_cache.specs.Kept.{Names as Kept_names}
use Rattle.zk_cache.specs.declared.held.Kept.{Kept}
use Rattle.zk_cache.specs.declared.held.Mark.{Mark}
use Rattle.zk_cache.specs.declared.held.Mark.TheVariants.{Good, Stale}
use Rattle.zk_turns.proofs.Marks.{data_marks, child_marks, data_agrees}
use Rattle.zk_laws.proofs.Log.{is_of, is_kind, Of_data, Of_absence, Of_children}
use Rattle.zk_laws.proofs.Seen.{seen, node_answer, names_answer, if_good}
use Rattle.zk_laws.proofs.Seeing.{good_node, good_names}
use Rattle.zk_turns.proofs.Words.{is_there, is_absent}
use Rattle.zk_limits.specs.declared.limits.TheConstants.{MOST_WEIGHT}

-- ---- the parts, joined

module _ (pick : Lists → List Text) (tag : Watch → List Text) (none : pick no_lists ≡ [])
    (first : (t : Watch) (part : Lists) → pick (put_first t part) ≡ tag t ++ pick part) where
  into_pick : (t : Watch) (ps : List Lists) → flat_map pick (into_first t ps) ≡ tag t ++ flat_map pick ps
  into_pick t [] = append-nil (pick (put_first t no_lists)) ∙ first t no_lists ∙ ap (λ l. tag t ++ l) none
  into_pick t (part ∷ ps) = ap (λ l. l ++ flat_map pick ps) (first t part) ∙ append_assoc (tag t) (pick part) (flat_map pick ps)

  rest_pick : (full : ℕ) (ts : List Watch) → flat_map pick (rest_of_parts full ts) ≡ flat_map tag ts
  rest_pick full [] = ap (λ l. l ++ []) none
  rest_pick full (t ∷ ts) = by (nat_le (full + weight_of t) MOST_WEIGHT) (λ n. rest_pick n ts)
    where
      by : (b : Bool) → ((n : ℕ) → flat_map pick (rest_of_parts n ts) ≡ flat_map tag ts)
          → flat_map pick
          (cond b (into_first t (rest_of_parts (full + weight_of t) ts)) (no_lists ∷ into_first t (rest_of_parts (weight_of t) ts)))
          ≡ tag t ++ flat_map tag ts
      by true ih = into_pick t (rest_of_parts (full + weight_of t) ts) ∙ ap (λ l. tag t ++ l) (ih (full + weight_of t))
      by false ih =
          ap (λ l. l ++ flat_map pick (into_first t (rest_of_parts (weight_of t) ts))) none
          ∙ into_pick t (rest_of_parts (weight_of t) ts) ∙ ap (λ l. tag t ++ l) (ih (weight_of t))

  parts_pick : (ts : List Watch) → flat_map pick (parts_of_watches ts) ≡ flat_map tag ts
  parts_pick [] = refl
  parts_pick (t ∷ ts) = into_pick t (rest_of_parts (weight_of t) ts) ∙ ap (λ l. tag t ++ l) (rest_pick (weight_of t) ts)

flat-append : (tag : Watch → List Text) (xs ys : List Watch) → flat_map tag (xs ++ ys) ≡ flat_map tag xs ++ flat_map tag ys
flat-append tag [] ys = refl
flat-append tag (x ∷ xs) ys = ap (λ l. tag x ++ l) (flat-append tag xs ys) ∙ sym (append_assoc (tag x) (flat_map tag xs) (flat_map tag ys))

all_of : (tag : Watch → List Text) (c : Text → Watch) → ((p : Text) → tag (c p) ≡ p ∷ []) → (ps : List Text) → flat_map tag (map c ps) ≡ ps
all_of tag c is [] = refl
all_of tag c is (p ∷ ps) = ap (λ l. l ++ flat_map tag (map c ps)) (is p) ∙ ap (λ l. p ∷ l) (all_of tag c is ps)

none_of : (tag : Watch → List Text) (c : Text → Watch) → ((p : Text) → tag (c p) ≡ []) → (ps : List Text) → flat_map tag (map c ps) ≡ []
none_of tag c is [] = refl
none_of tag c is (p ∷ ps) = ap (λ l. l ++ flat_map tag (map c ps)) (is p) ∙ none_of tag c is ps

three : (tag : Watch → List Text) (lists : Lists) (a b c : List Text) → flat_map tag (map OnData lists.data_watches) ≡ a
    → flat_map tag (map OnExist lists.exist_watches) ≡ b → flat_map tag (map OnChild lists.child_watches) ≡ c
    → flat_map tag (watches_of lists) ≡ a ++ b ++ c
three tag lists a b c p q r =
    flat-append tag (map OnData lists.data_watches) (map OnExist lists.exist_watches ++ map OnChild lists.child_watches)
    ∙ ap (λ l. flat_map tag (map OnData lists.data_watches) ++ l)
    (flat-append tag (map OnExist lists.exist_watches) (map OnChild lists.child_watches))
    ∙ ap (λ l. l ++ (flat_map tag (map OnExist lists.exist_watches) ++ flat_map tag (map OnChild lists.child_watches))) p
    ∙ ap (λ l. a ++ (l ++ flat_map tag (map OnChild lists.child_watches))) q
    ∙ ap (λ l. a ++ (b ++ l)) r
    ∙ sym (append_assoc a b c)

known_tag : Watch → List Text
known_tag (OnData p) = p ∷ []
known_tag _ = []

missing_tag : Watch → List Text
missing_tag (OnExist p) = p ∷ []
missing_tag _ = []

parent_tag : Watch → List Text
parent_tag (OnChild p) = p ∷ []
parent_tag _ = []

known_first : (t : Watch) (part : Lists) → (put_first t part).data_watches ≡ known_tag t ++ part.data_watches
unfolding known_tag
known_first (OnData p) part = refl
known_first (OnExist p) part = refl
known_first (OnChild p) part = refl

missing_first : (t : Watch) (part : Lists) → (put_first t part).exist_watches ≡ missing_tag t ++ part.exist_watches
unfolding missing_tag
missing_first (OnData p) part = refl
missing_first (OnExist p) part = refl
missing_first (OnChild p) part = refl

parent_first : (t : Watch) (part : Lists) → (put_first t part).child_watches ≡ parent_tag t ++ part.child_watches
unfolding parent_tag
parent_first (OnData p) part = refl
parent_first (OnExist p) part = refl
parent_first (OnChild p) part = refl

pub parts_known : (lists : Lists) → flat_map (λ part. part.data_watches) (parts lists) ≡ lists.data_watches
unfolding known_tag
parts_known lists =
    parts_pick (λ part. part.data_watches) known_tag refl known_first (watches_of lists)
    ∙ three known_tag lists lists.data_watches [] [] (all_of known_tag OnData (λ p. refl) lists.data_watches)
    (none_of known_tag OnExist (λ p. refl) lists.exist_watches) (none_of known_tag OnChild (λ p. refl) lists.child_watches)
    ∙ append-nil (lists.data_watches ++ []) ∙ append-nil lists.data_watches

pub parts_missing : (lists : Lists) → flat_map (λ part. part.exist_watches) (parts lists) ≡ lists.exist_watches
unfolding missing_tag
parts_missing lists =
    parts_pick (λ part. part.exist_watches) missing_tag refl missing_first (watches_of lists)
    ∙ three missing_tag lists [] lists.exist_watches [] (none_of missing_tag OnData (λ p. refl) lists.data_watches)
    (all_of missing_tag OnExist (λ p. refl) lists.exist_watches) (none_of missing_tag OnChild (λ p. refl) lists.child_watches)
    ∙ append-nil lists.exist_watches

pub parts_parents : (lists : Lists) → flat_map (λ part. part.child_watches) (parts lists) ≡ lists.child_watches
unfolding parent_tag
parts_parents lists =
    parts_pick (λ part. part.child_watches) parent_tag refl parent_first (watches_of lists)
    ∙ three parent_tag lists [] [] lists.child_watches (none_of parent_tag OnData (λ p. refl) lists.data_watches)
    (none_of parent_tag OnExist (λ p. refl) lists.exist_watches) (all_of parent_tag OnChild (λ p. refl) lists.child_watches)

-- ---- what is good is listed

node_is : (kept : Option (Kept Kept_answer)) (said : Option Kept_answer) → is_marked_good kept ≡ is_some said → AgreesWith kept said
    → (is_of Of_data (if_good node_answer kept) ≡ is_there said) × (is_of Of_absence (if_good node_answer kept) ≡ is_absent said)
node_is None None e a = (refl, refl)
node_is None (Some s) e a = absurd cc
node_is (Some kept) said e a = by kept.answer kept.mark said e a
  where
    by : (x : Kept_answer) (m : Mark) (s : Option Kept_answer)
        → is_marked_good (Some (record { answer = x; mark = m })) ≡ is_some s → AgreesWith (Some (record { answer = x; mark = m })) s
        → (is_of Of_data (if_good node_answer (Some (record { answer = x; mark = m }))) ≡ is_there s)
        × (is_of Of_absence (if_good node_answer (Some (record { answer = x; mark = m }))) ≡ is_absent s)
    by x Stale None e a = (refl, refl)
    by x Stale (Some s) e a = absurd cc
    by x Good None e a = absurd cc
    by Kept_absent Good (Some Kept_absent) e a = (refl, refl)
    by Kept_absent Good (Some (Kept_known f)) e a = absurd cc
    by Kept_absent Good (Some (Kept_full b f)) e a = absurd cc
    by (Kept_known g) Good (Some Kept_absent) e a = absurd cc
    by (Kept_known g) Good (Some (Kept_known f)) e a = (refl, refl)
    by (Kept_known g) Good (Some (Kept_full b f)) e a = (refl, refl)
    by (Kept_full c g) Good (Some Kept_absent) e a = absurd cc
    by (Kept_full c g) Good (Some (Kept_known f)) e a = (refl, refl)
    by (Kept_full c g) Good (Some (Kept_full b f)) e a = (refl, refl)

names_is : (kept : Option (Kept Kept_names)) → is_of Of_children (if_good names_answer kept) ≡ is_marked_good kept
names_is None = refl
names_is (Some kept) = by kept.mark
  where
    by : (m : Mark) → is_of Of_children (if_good names_answer (Some (record { answer = kept.answer; mark = m })))
        ≡ is_marked_good (Some (record { answer = kept.answer; mark = m }))
    by Good = refl
    by Stale = refl

module _ (start : Start) (past : Past) where
  -- The paths of a kind are those listed.
  pub kind_known : (path : Text) → is_kind Of_data path (seen start past) ≡ in_known path past
  kind_known path = ap (is_of Of_data) (good_node start path past)
      ∙ (node_is (kept_data path past) (still_said (word_data path) past) (data_marks path past) (data_agrees path past)).0

  pub kind_missing : (path : Text) → is_kind Of_absence path (seen start past) ≡ in_missing path past
  kind_missing path = ap (is_of Of_absence) (good_node start path past)
      ∙ (node_is (kept_data path past) (still_said (word_data path) past) (data_marks path past) (data_agrees path past)).1

  pub kind_parents : (path : Text) → is_kind Of_children path (seen start past) ≡ in_parents path past
  kind_parents path = ap (is_of Of_children) (good_names start path past) ∙ names_is (kept_names path past) ∙ child_marks path past
