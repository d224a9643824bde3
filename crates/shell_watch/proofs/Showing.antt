-- Subjects are shown, one after the other: those before a place were shown, and those from it on are as they were.
use Rattle.std.proofs.Common.{suc, ◌≡◌, ◌≤◌, ◌<◌, ◌+◌, ◌++◌, ◌∙◌, ℕ, List, [], ◌∷◌, length, get_or, drop, take, set, refl, sym, ap, subst}
use Rattle.std.proofs.Common.{arith, append_assoc, append-nil, length-take}
use Rattle.std.proofs.lemmas.List.{drop_more, get_or_at, set_at, take_more, take_all, drop_all}
use Rattle.zk_turns.specs.View.{View}
use Rattle.shell_watch.specs.declared.plan.Style.{Style}
use Rattle.shell_watch.specs.declared.shown.Watched.{Watched}
use Rattle.shell_watch.specs.Watching.{ShowsAll, ShowsSo}

pub as_many : {A : Type 0} (style : Style) (ms : ℕ) (view : View) (olds news : List (Watched A)) (text : List ℕ)
    → ShowsAll style ms view olds news text → length news ≡ length olds
as_many style ms view [] [] text shows = refl
as_many style ms view (old ∷ olds) (new ∷ news) text shows = ap (λ n. suc n) (as_many style ms view olds news shows.1 shows.3)
as_many style ms view [] (new ∷ news) text shows = absurd shows
as_many style ms view (old ∷ olds) [] text shows = absurd shows

-- one more
pub shows_more : {A : Type 0} (style : Style) (ms : ℕ) (view : View) (olds news : List (Watched A)) (text : List ℕ)
    (old new : Watched A) (more : List ℕ)
    → ShowsAll style ms view olds news text → ShowsSo style ms view old new more
    → ShowsAll style ms view (olds ++ old ∷ []) (news ++ new ∷ []) (text ++ more)
shows_more style ms view [] [] text old new more shows one = (more, [], one, refl, ap (λ l. l ++ more) shows ∙ sym (append-nil more))
shows_more style ms view (o ∷ olds) (n ∷ news) text old new more shows one = (
  shows.0,
  shows.1 ++ more,
  shows.2,
  shows_more style ms view olds news shows.1 old new more shows.3 one,
  ap (λ l. l ++ more) shows.4 ∙ append_assoc shows.0 shows.1 more,
)
shows_more style ms view [] (n ∷ news) text old new more shows one = absurd shows
shows_more style ms view (o ∷ olds) [] text old new more shows one = absurd shows

-- Those before a place were shown, and those from it on are as they were.
pub record Shown {A : Type 0} (style : Style) (ms : ℕ) (view : View) (first : List (Watched A)) (index : ℕ)
    (now : List (Watched A)) (before text : List ℕ) : Type 0 where
  pub done : List (Watched A)
  pub told : List ℕ
  pub parts : now ≡ done ++ drop index first
  pub shows : ShowsAll style ms view (take index first) done told
  pub added : text ≡ before ++ told

pub shown_none : {A : Type 0} (style : Style) (ms : ℕ) (view : View) (first : List (Watched A)) (text : List ℕ)
    → Shown style ms view first 0 first text text
shown_none style ms view first text = record { done = []; told = []; parts = refl; shows = refl; added = sym (append-nil text) }

module _ {A : Type 0} (style : Style) (ms : ℕ) (view : View) (first : List (Watched A)) (index : ℕ)
    (now : List (Watched A)) (before text : List ℕ) where
  many : Shown style ms view first index now before text → index < length first → (shown : Shown style ms view first index now before text)
      → length shown.done ≡ index
  many _ within shown = as_many style ms view (take index first) shown.done shown.told shown.shows
      ∙ length-take index first ∙ omega (arith, within)

  -- what is at the place
  pub at_place : (d : Watched A)
      → index < length first → Shown style ms view first index now before text → get_or now index d ≡ get_or first index d
  at_place d within shown =
      ap (λ l. get_or l index d) (shown.parts ∙ ap (λ l. shown.done ++ l) (drop_more first index d within))
      ∙ get_or_at shown.done (get_or first index d) (drop (index + 1) first) d index (many shown within shown)

  -- it is shown too
  pub shown_more : (d new : Watched A) (more after : List ℕ)
      → index < length first → Shown style ms view first index now before text → ShowsSo style ms view (get_or now index d) new more
      → after ≡ text ++ more → Shown style ms view first (index + 1) (set now index new) before after
  shown_more d new more after within shown one adds = record {
    done = shown.done ++ new ∷ [];
    told = shown.told ++ more;
    parts = ap (λ l. set l index new) (shown.parts ∙ ap (λ l. shown.done ++ l) (drop_more first index d within))
        ∙ set_at shown.done (get_or first index d) (drop (index + 1) first) new index (many shown within shown)
        ∙ sym (append_assoc shown.done (new ∷ []) (drop (index + 1) first));
    shows = subst (λ olds. ShowsAll style ms view olds (shown.done ++ new ∷ []) (shown.told ++ more)) (sym (take_more first index d within))
        (shows_more style ms view (take index first) shown.done shown.told (get_or first index d) new more shown.shows
        (subst (λ (w : Watched A). ShowsSo style ms view w new more) (at_place d within shown) one));
    added = adds ∙ ap (λ l. l ++ more) shown.added ∙ append_assoc before shown.told more;
  }

  -- all are
  pub shown_all : length first ≤ index → Shown style ms view first index now before text
      → (told : List ℕ) × ShowsAll style ms view first now told × (text ≡ before ++ told)
  shown_all past shown =
      let whole : shown.done ≡ now =
      sym (append-nil shown.done) ∙ ap (λ l. shown.done ++ l) (sym (drop_all index first past)) ∙ sym shown.parts in (
        shown.told,
        subst (λ olds. ShowsAll style ms view olds now shown.told) (take_all index first past)
            (subst (λ news. ShowsAll style ms view (take index first) news shown.told) whole shown.shows),
        shown.added,
      )
