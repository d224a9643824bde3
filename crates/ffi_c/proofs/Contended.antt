-- What the contenders of a session have listed is what its client was answered: each call that lists without a watch asks for the directory
-- of the contender that waits for its answer, and no two calls have one who waits.
use Rattle.std.proofs.Common.{◌≡◌, ◌≤◌, ◌<◌, ◌⊎◌, inl, inr, ℕ, Bool, true, false, cond, List, [], Option, Some, None, is_some}
use Rattle.std.proofs.Common.{nat_eq, option_map, refl, sym, ap, subst, ◌∙◌, true≢false, arith}
use Rattle.std.proofs.lemmas.Bool.{eq-eqb, eqb-true}
use Rattle.std.specs.Prelude.{⊤}
use Rattle.std.specs.List.{list_any, AllByRecursion}
use Rattle.std.specs.declared.alloc.Global.{Global}
use Rattle.zk_nodes.specs.Path.{Text}
use Rattle.zk_nodes.specs.declared.side.Side.{Side}
use Rattle.zk_nodes.specs.declared.side.Side.TheVariants.{Data, Child}
use Rattle.zk_records.specs.declared.event.Event.{Event}
use Rattle.zk_records.specs.declared.event.Event.TheVariants.{Created, Deleted, DataChanged, ChildrenChanged}
use Rattle.zk_conversation.specs.Calls.{Call as Asked_call}
use Rattle.zk_conversation.specs.Questions.{Question, GetChildren, question_of}
use Rattle.zk_conversation.specs.Views.{call_view}
use Rattle.zk_turns.specs.Turns.{Call, Input, Item, Outcome, Turned}
use Rattle.zk_turns.specs.View.{View}
use Rattle.zk_follow.specs.Following.{read_of}
use Rattle.zk_calls.specs.declared.entry.Entry.{Entry}
use Rattle.zk_agent.specs.Telling.{Told}
use Rattle.zk_contend.specs.Collections.{asker_of, one_of, Asks, ForgetsCalls, Hears, HearsBy, IsChanged}
use Rattle.zk_contend.specs.Contenders.{noted, IsAsked, IsHeard, IsHeardAs, IsHeardOf}
use Rattle.zk_contend.specs.Dues.{call_asked, path_asked}
use Rattle.zk_contend.specs.Standings.{HasHeard}
use Rattle.zk_contend.specs.declared.collection.Contenders.{Contenders}
use Rattle.zk_contend.specs.declared.contender.LockContender.{LockContender}
use Rattle.zk_contend.specs.declared.listed.Listed.{Listed}
use Rattle.zk_contend.specs.declared.place.Ask.{Ask}
use Rattle.zk_contend.specs.declared.place.Ask.TheVariants.{List as ListsAgain}
use Rattle.zk_contend.specs.declared.place.Place.{Place}
use Rattle.zk_contend.specs.declared.place.Place.TheVariants.{At, Making}
use Rattle.ffi_device.specs.Chains.{first_own}
use Rattle.ffi_c.specs.Pasts.{Chapter}
use Rattle.ffi_c.proofs.Heard.{each_weaker, AsksSo, ItemAsks}
use Rattle.zk_contend.proofs.Listings.{heard_has, noted_has, HasListing, IsAnswer}
use Rattle.ffi_c.proofs.Tickets.{begins, EntryAsks}

-- ---- one contender, where it is there

abbrev pub Contender : Type 0
Contender = LockContender Global

abbrev pub HasAsked : Option Contender → Type 0
HasAsked None = ⊥
HasAsked (Some contender) = is_some contender.asked ≡ true

-- If it has asked to list its directory again, that is this path.
abbrev pub ListsPath : (path : Text) → Option Contender → Type 0
ListsPath path None = ⊤
ListsPath path (Some contender) = contender.asked ≡ Some ListsAgain → path ≡ contender.directory

abbrev pub HasListed : (Is : Text → Listed Global → Type 0) → Option Contender → Type 0
HasListed Is None = ⊤
HasListed Is (Some contender) = (listed : Listed Global) → HasListing contender.place listed → Is contender.directory listed

-- The same was asked of the same directory, and no other listing came.
pub record IsLike (was is : Contender) : Type 0 where
  pub asked : is.asked ≡ was.asked
  pub directory : is.directory ≡ was.directory
  pub listing : (listed : Listed Global) → HasListing is.place listed → HasListing was.place listed

-- One that is there no more had nothing asked, and one that joins has nothing asked or listed.
abbrev pub BecomesLike : Option Contender → Option Contender → Type 0
BecomesLike None None = ⊤
BecomesLike None (Some is) = (is.asked ≡ None) × ((listed : Listed Global) → HasListing is.place listed → ⊥)
BecomesLike (Some was) None = is_some was.asked ≡ false
BecomesLike (Some was) (Some is) = IsLike was is

asked_like : (old new : Option Contender) → BecomesLike old new → HasAsked old → HasAsked new
asked_like None new like asked = absurd asked
asked_like (Some was) None like asked = absurd (true≢false (sym asked ∙ like))
asked_like (Some was) (Some is) like asked = ap is_some like.asked ∙ asked

path_like : (path : Text) (old new : Option Contender) → BecomesLike old new → ListsPath path old → ListsPath path new
path_like path None None like lists = tt
path_like path None (Some is) like lists = λ again. absurd (let e : None ≡ Some ListsAgain = sym like.0 ∙ again in cc)
path_like path (Some was) None like lists = tt
path_like path (Some was) (Some is) like lists = λ again. lists (sym like.asked ∙ again) ∙ sym like.directory

listed_like : (Is : Text → Listed Global → Type 0) (old new : Option Contender) → BecomesLike old new → HasListed Is old → HasListed Is new
listed_like Is None None like lists = tt
listed_like Is None (Some is) like lists = λ listed has. absurd (like.1 listed has)
listed_like Is (Some was) None like lists = tt
listed_like Is (Some was) (Some is) like lists = λ listed has.
    subst (λ (d : Text). Is d listed) (sym like.directory) (lists listed (like.listing listed has))

pub itself : (contender : Contender) → IsLike contender contender
itself contender = record { asked = refl; directory = refl; listing = λ listed has. has }

pub same_like : (old new : Option Contender) → new ≡ old → BecomesLike old new
same_like old new same = subst (BecomesLike old) (sym same) (by old)
  where
    by : (one : Option Contender) → BecomesLike one one
    by None = tt
    by (Some contender) = itself contender

pub changed_like : (change : Contender → Contender) → ((contender : Contender) → IsLike contender (change contender))
    → (old new : Option Contender) → new ≡ option_map change old → BecomesLike old new
changed_like change like None new is = subst (BecomesLike None) (sym is) tt
changed_like change like (Some was) new is = subst (BecomesLike (Some was)) (sym is) (like was)

pub noted_like : (path : Text) (event : Event) (contender : Contender) → IsLike contender (noted path event contender)
noted_like path event contender = record {
  asked = asked event;
  directory = directory event;
  listing = noted_has contender path event;
}
  where
    asked : (what : Event) → (noted path what contender).asked ≡ contender.asked
    asked Deleted = refl
    asked Created = refl
    asked DataChanged = refl
    asked ChildrenChanged = refl

    directory : (what : Event) → (noted path what contender).directory ≡ contender.directory
    directory Deleted = refl
    directory Created = refl
    directory DataChanged = refl
    directory ChildrenChanged = refl

-- ---- what is asked

-- A path is listed so that this is so of the ticket.
abbrev pub AsksList : (MayList : ℕ → Text → Type 0) → ℕ → Question → Type 0
AsksList MayList ticket (GetChildren path watch) = MayList ticket path
AsksList MayList ticket _ = ⊤

asks_on : (May Then : ℕ → Text → Type 0) → ((ticket : ℕ) (path : Text) → May ticket path → Then ticket path) → (ticket : ℕ)
    (question : Question) → AsksList May ticket question → AsksList Then ticket question
asks_on May Then on ticket (GetChildren path watch) asks = on ticket path asks
asks_on May Then on ticket _ asks = tt

pub asks_where : (May : ℕ → Text → Type 0) (ticket : ℕ) (question : Question)
    → ((path : Text) (watch : Bool) → question ≡ GetChildren path watch → May ticket path) → AsksList May ticket question
asks_where May ticket (GetChildren path watch) may = may path watch refl
asks_where May ticket _ may = tt

pub reads_list : (May : ℕ → Text → Type 0) (ticket : ℕ) → ((path : Text) → May ticket path) → (side : Side) (is_missing : Bool)
    (path : Text) → AsksList May ticket (read_of side is_missing path)
reads_list May ticket may Data false path = tt
reads_list May ticket may Child false path = may path
reads_list May ticket may Data true path = tt
reads_list May ticket may Child true path = tt

item_on : (May Then : ℕ → Question → Type 0) → ((ticket : ℕ) (question : Question) → May ticket question → Then ticket question)
    → (item : Item) → ItemAsks May item → ItemAsks Then item
item_on May Then on (Turned turn) asks = by turn.input asks
  where
    by : (input : Input) → AsksSo May input → AsksSo Then input
    by (Call ticket call) may = on ticket (question_of call) may
    by _ may = tt
item_on May Then on _ asks = tt

module _ (one : ℕ → Option Contender) (asker : ℕ → Option ℕ) where
  -- Who waits for a call has asked one, and no two calls have one who waits.
  pub record AreAwaited : Type 0 where
    pub there : (call ticket : ℕ) → asker call ≡ Some ticket → HasAsked (one ticket)
    pub once : (call other ticket : ℕ) → asker call ≡ Some ticket → asker other ≡ Some ticket → call ≡ other

  -- A call of contenders that lists was asked before the next one, and who waits for it lists this path.
  abbrev pub MayList : (next ticket : ℕ) → (path : Text) → Type 0
  MayList next ticket path = first_own ≤ ticket → (ticket < next) × ((its : ℕ) → asker ticket ≡ Some its → ListsPath path (one its))

-- Each listing is so.
abbrev pub AreListed : (Is : Text → Listed Global → Type 0) → (one : ℕ → Option Contender) → Type 0
AreListed Is one = (ticket : ℕ) → HasListed Is (one ticket)

abbrev pub IsListedIn : Chapter → Text → Listed Global → Type 0
IsListedIn chapter directory listed = HasHeard chapter.start chapter.items directory listed

abbrev pub Asking : (one : ℕ → Option Contender) (asker : ℕ → Option ℕ) (next : ℕ) → ℕ → Question → Type 0
Asking one asker next = AsksList (MayList one asker next)

-- What is so of contenders, between what an agent does, while this is still to be heard by them.
pub record ListsBy (one : ℕ → Option Contender) (asker : ℕ → Option ℕ) (next : ℕ) (chapter : Chapter) (line : List (Entry Global))
    (rest : List Told) : Type 0 where
  pub awaited : AreAwaited one asker
  pub turns : AllByRecursion (ItemAsks (Asking one asker next)) chapter.items
  pub waits : AllByRecursion (EntryAsks (Asking one asker next)) line
  pub listed : list_any begins rest ≡ false → AreListed (IsListedIn chapter) one

abbrev pub Lists : Contenders Global → Chapter → List (Entry Global) → List Told → Type 0
Lists contenders chapter line rest = ListsBy (one_of contenders) (asker_of contenders) contenders.calls.next chapter line rest

abbrev pub AskingOf : Contenders Global → ℕ → Question → Type 0
AskingOf contenders = Asking (one_of contenders) (asker_of contenders) contenders.calls.next

abbrev pub ListedOf : Contenders Global → Chapter → Type 0
ListedOf contenders chapter = AreListed (IsListedIn chapter) (one_of contenders)

module _ (one new : ℕ → Option Contender) (asker calls : ℕ → Option ℕ) (next then : ℕ) (chapter : Chapter) (line : List (Entry Global))
    (rest more : List Told) where
  -- what follows for all that was asked, by who waits then
  lists_on : AreAwaited new calls → ((ticket : ℕ) (path : Text) → MayList one asker next ticket path → MayList new calls then ticket path)
      → (list_any begins more ≡ false → AreListed (IsListedIn chapter) new) → ListsBy one asker next chapter line rest
      → ListsBy new calls then chapter line more
  lists_on awaited on listed was =
      let asks = asks_on (MayList one asker next) (MayList new calls then) on in
      record {
        awaited = awaited;
        turns = each_weaker (ItemAsks (Asking one asker next)) (ItemAsks (Asking new calls then))
            (item_on (Asking one asker next) (Asking new calls then) asks) chapter.items was.turns;
        waits = each_weaker (EntryAsks (Asking one asker next)) (EntryAsks (Asking new calls then))
            (λ (entry : Entry Global) its. asks entry.ticket (question_of (call_view entry.call)) its) line was.waits;
        listed = listed;
      }

  pub lists_like : ((ticket : ℕ) → BecomesLike (one ticket) (new ticket)) → ((call : ℕ) → calls call ≡ asker call) → then ≡ next
      → (list_any begins more ≡ false → list_any begins rest ≡ false) → ListsBy one asker next chapter line rest
      → ListsBy new calls then chapter line more
  lists_like like same is before was =
      lists_on
      (record {
        there = λ call ticket e. asked_like (one ticket) (new ticket) (like ticket) (was.awaited.there call ticket (sym (same call) ∙ e));
        once = λ call other ticket e f. was.awaited.once call other ticket (sym (same call) ∙ e) (sym (same other) ∙ f);
      })
      (λ ticket path may own. (
        subst (λ n. ticket < n) (sym is) (may own).0,
        (λ its e. path_like path (one its) (new its) (like its) ((may own).1 its (sym (same ticket) ∙ e))),
      ))
      (λ none ticket. listed_like (IsListedIn chapter) (one ticket) (new ticket) (like ticket) (was.listed (before none) ticket)) was

-- ---- calls that are heard of no more

abbrev pub IsBare : Option Contender → Type 0
IsBare None = ⊤
IsBare (Some contender) = (listed : Listed Global) → HasListing contender.place listed → ⊥

pub bare_changed : (change : Contender → Contender)
    → ((contender : Contender) (listed : Listed Global) → HasListing (change contender).place listed → ⊥) → (old new : Option Contender)
    → new ≡ option_map change old → IsBare new
bare_changed change bare None new is = subst IsBare (sym is) tt
bare_changed change bare (Some was) new is = subst IsBare (sym is) (bare was)

bare_listed : (Is : Text → Listed Global → Type 0) (one : Option Contender) → IsBare one → HasListed Is one
bare_listed Is None bare = tt
bare_listed Is (Some contender) bare = λ listed has. absurd (bare listed has)

pub forgets : (old new : Contenders Global) (chapter : Chapter) (line : List (Entry Global)) (rest more : List Told) → ForgetsCalls old new
    → ((ticket : ℕ) → IsBare (one_of new ticket)) → Lists old chapter line rest → Lists new chapter line more
forgets old new chapter line rest more gone bare was =
    lists_on (one_of old) (one_of new) (asker_of old) (asker_of new) old.calls.next new.calls.next chapter line rest more
    (record { there = λ call ticket e. absurd (none call ticket e); once = λ call other ticket e f. absurd (none call ticket e) })
    (λ ticket path may own. (
      subst (λ n. ticket < n) (sym gone.next) (may own).0,
      (λ its e. absurd (none ticket its e)),
    ))
    (λ no ticket. bare_listed (IsListedIn chapter) (one_of new ticket) (bare ticket)) was
  where
    none : (call ticket : ℕ) → asker_of new call ≡ Some ticket → ⊥
    none call ticket e = let is : None ≡ Some ticket = sym (gone.calls call) ∙ e in cc

-- ---- an answer

-- What is answered to one that listed its directory is so.
abbrev pub Answers : (Is : Text → Listed Global → Type 0) → Outcome → Option Contender → Type 0
Answers Is outcome None = ⊤
Answers Is outcome (Some contender) =
    contender.asked ≡ Some ListsAgain → (listed : Listed Global) → IsAnswer outcome listed → Is contender.directory listed

module _ (Is : Text → Listed Global → Type 0) (view : View) (now : ℕ) (outcome : Outcome) where
  ask_heard : (was is : Contender) (ask : Ask) → was.asked ≡ Some ask → IsHeardOf view now ask outcome was is → HasListed Is (Some was)
      → Answers Is outcome (Some was) → (listed : Listed Global) → HasListing is.place listed → Is is.directory listed
  ask_heard was is ask e heard lists answers listed has =
      subst (λ (d : Text). Is d listed) (sym (ap (λ (c : Contender). c.directory) heard.is))
      (by (heard_has view.saved.session.session was ask outcome is.place listed heard.hears has))
    where
      by : HasListing was.place listed ⊎ ((ask ≡ ListsAgain) × IsAnswer outcome listed) → Is was.directory listed
      by (inl had) = lists listed had
      by (inr named) = answers (e ∙ ap Some named.0) listed named.1

  one_heard : (was is : Contender) (asked : Option Ask) → was.asked ≡ asked → IsHeardAs view now asked outcome was is
      → HasListed Is (Some was) → Answers Is outcome (Some was) → HasListed Is (Some is)
  one_heard was is None e same lists answers = subst (λ (c : Contender). HasListed Is (Some c)) (sym same) lists
  one_heard was is (Some ask) e heard lists answers = ask_heard was is ask e heard lists answers

  heard_where : (old new : Option Contender) → IsChanged true (IsHeard view now outcome) old new → HasListed Is old → Answers Is outcome old
      → HasListed Is new
  heard_where None new is lists answers = subst (HasListed Is) (sym is) tt
  heard_where (Some was) new is lists answers =
      subst (HasListed Is) (sym is.1) (one_heard was is.0 was.asked refl is.2 lists answers)

same_else : {X : Type 0} (becomes : X → X → Type 0) (is_it : Bool) (old new : Option X) → is_it ≡ false → IsChanged is_it becomes old new
    → new ≡ old
same_else becomes true old new e is = absurd (true≢false e)
same_else becomes false old new e is = is

dropped : (is_it : Bool) (one : Option ℕ) (ticket : ℕ) → cond is_it None one ≡ Some ticket → (is_it ≡ false) × (one ≡ Some ticket)
dropped true one ticket e = absurd (let is : None ≡ Some ticket = e in cc)
dropped false one ticket e = (refl, e)

module _ (view : View) (now number : ℕ) (outcome : Outcome) (old new : Contenders Global) (hears : Hears view now number outcome old new)
    (awaited : AreAwaited (one_of old) (asker_of old)) where
  -- Who waits for another call stays as it was.
  others_stay : (asker : Option ℕ) → asker_of old number ≡ asker → HearsBy view now outcome asker old new → (call ticket : ℕ)
      → nat_eq number call ≡ false → asker_of old call ≡ Some ticket → one_of new ticket ≡ one_of old ticket
  others_stay None asked same call ticket apart is = same ticket
  others_stay (Some its) asked heard call ticket apart is = by (nat_eq its ticket) refl
    where
      by : (is_it : Bool) → nat_eq its ticket ≡ is_it → one_of new ticket ≡ one_of old ticket
      by true e =
          let both = awaited.once number call its asked (is ∙ ap Some (sym (eqb-true its ticket e))) in
          absurd (true≢false (sym (eq-eqb number call both) ∙ apart))
      by false e = same_else (IsHeard view now outcome) (nat_eq its ticket) (one_of old ticket) (one_of new ticket) e (heard.0 ticket)

  stays : (call ticket : ℕ) → asker_of new call ≡ Some ticket → (asker_of old call ≡ Some ticket) × (one_of new ticket ≡ one_of old ticket)
  stays call ticket e =
      let was = dropped (nat_eq number call) (asker_of old call) ticket (sym (hears.calls call) ∙ e) in
      (was.1, others_stay (asker_of old number) refl hears.heard call ticket was.0 was.1)

  all_heard : (Is : Text → Listed Global → Type 0) (asker : Option ℕ) → HearsBy view now outcome asker old new
      → ((its : ℕ) → asker ≡ Some its → Answers Is outcome (one_of old its)) → AreListed Is (one_of old) → AreListed Is (one_of new)
  all_heard Is None same answers lists ticket = subst (HasListed Is) (sym (same ticket)) (lists ticket)
  all_heard Is (Some its) heard answers lists ticket = by (nat_eq its ticket) refl (heard.0 ticket)
    where
      by : (is_it : Bool) → nat_eq its ticket ≡ is_it → IsChanged is_it (IsHeard view now outcome) (one_of old ticket) (one_of new ticket)
          → HasListed Is (one_of new ticket)
      by true e is = heard_where Is view now outcome (one_of old ticket) (one_of new ticket) is (lists ticket)
          (subst (λ t. Answers Is outcome (one_of old t)) (eqb-true its ticket e) (answers its refl))
      by false e is = subst (HasListed Is) (sym is) (lists ticket)

pub hears_on : (view : View) (now number : ℕ) (outcome : Outcome) (old new : Contenders Global) (chapter : Chapter)
    (line : List (Entry Global)) (rest more : List Told) → Hears view now number outcome old new
    → (list_any begins more ≡ false → list_any begins rest ≡ false)
    → (list_any begins more ≡ false → (its : ℕ) → asker_of old number ≡ Some its
    → Answers (IsListedIn chapter) outcome (one_of old its)) → Lists old chapter line rest → Lists new chapter line more
hears_on view now number outcome old new chapter line rest more hears before answers was =
    lists_on (one_of old) (one_of new) (asker_of old) (asker_of new) old.calls.next new.calls.next chapter line rest more
    (record {
      there = λ call ticket e. subst HasAsked (sym (kept call ticket e).1) (was.awaited.there call ticket (kept call ticket e).0);
      once = λ call other ticket e f. was.awaited.once call other ticket (kept call ticket e).0 (kept other ticket f).0;
    })
    (λ ticket path may own. (
      subst (λ n. ticket < n) (sym hears.next) (may own).0,
      (λ its e. subst (ListsPath path) (sym (kept ticket its e).1) ((may own).1 its (kept ticket its e).0)),
    ))
    (λ none. all_heard view now number outcome old new hears was.awaited (IsListedIn chapter) (asker_of old number) hears.heard
    (answers none) (was.listed (before none))) was
  where
    kept : (call ticket : ℕ) → asker_of new call ≡ Some ticket
        → (asker_of old call ≡ Some ticket) × (one_of new ticket ≡ one_of old ticket)
    kept = stays view now number outcome old new hears was.awaited

-- ---- a call

lists_directory : (directory : Text) (place : Place Global) → path_asked directory place ListsAgain ≡ directory
lists_directory directory (Making path) = refl
lists_directory directory (At own listing) = refl
lists_directory directory _ = refl

-- what becomes of the one that asks
record HasNow (call : Asked_call) (new : Option Contender) : Type 0 where
  asked : HasAsked new
  lists : (path : Text) (watch : Bool) → question_of call ≡ GetChildren path watch → ListsPath path new

path_same : (path other : Text) (watch its : Bool) → GetChildren path watch ≡ GetChildren other its → path ≡ other
path_same path other watch its e = cc

ask_same : (ask other : Ask) → Some ask ≡ Some other → ask ≡ other
ask_same ask other e = cc

module _ (view : View) (now : ℕ) (call : Asked_call) where
  asks_now : (was is : Contender) → IsAsked view now was call is → HasNow call (Some is)
  asks_now was is (ask, due, calls, same) = record {
    asked = ap is_some asked;
    lists = λ path watch question again.
        let listing : ask ≡ ListsAgain = ask_same ask ListsAgain (sym asked ∙ again) in
        let about : call ≡ call_asked was ListsAgain = calls ∙ ap (call_asked was) listing in
        path_same path (path_asked was.directory was.place ListsAgain) watch false (sym question ∙ ap question_of about)
        ∙ lists_directory was.directory was.place ∙ sym (ap (λ (c : Contender). c.directory) same);
  }
    where
      asked : is.asked ≡ Some ask
      asked = ap (λ (c : Contender). c.asked) same

  asker_now : (old new : Option Contender) → is_some old ≡ true → IsChanged true (λ was is. IsAsked view now was call is) old new
      → HasNow call new × (HasAsked old → ⊥)
  asker_now None new there is = absurd (true≢false (sym there))
  asker_now (Some was) new there is = (
    subst (HasNow call) (sym is.1) (asks_now was is.0 is.2),
    (λ asked. true≢false (sym asked ∙ is.2.1.0)),
  )

module _ (view : View) (now number : ℕ) (call : Asked_call) (old new : Contenders Global) (asks : Asks view now number call old new)
    (awaited : AreAwaited (one_of old) (asker_of old)) where
  its_own : HasNow call (one_of new asks.ticket) × (HasAsked (one_of old asks.ticket) → ⊥)
  its_own =
      asker_now view now call (one_of old asks.ticket) (one_of new asks.ticket) asks.there
      (subst (λ b. IsChanged b (λ was is. IsAsked view now was call is) (one_of old asks.ticket) (one_of new asks.ticket))
      (eq-eqb asks.ticket asks.ticket refl) (asks.asked asks.ticket))

  -- Who waits for another call stays as it was.
  still_there : (other ticket : ℕ) → asker_of old other ≡ Some ticket → one_of new ticket ≡ one_of old ticket
  still_there other ticket is = by (nat_eq asks.ticket ticket) refl
    where
      by : (is_it : Bool) → nat_eq asks.ticket ticket ≡ is_it → one_of new ticket ≡ one_of old ticket
      by true e = absurd (its_own.1 (awaited.there other asks.ticket (is ∙ ap Some (sym (eqb-true asks.ticket ticket e)))))
      by false e = same_else (λ was is. IsAsked view now was call is) (nat_eq asks.ticket ticket) (one_of old ticket) (one_of new ticket) e
          (asks.asked ticket)

  -- Who waits for a call is the one that asks this one, or waited for another before.
  abbrev WaitsFor : (other ticket : ℕ) → Type 0
  WaitsFor other ticket = ((number ≡ other) × (asks.ticket ≡ ticket))
      ⊎ ((nat_eq number other ≡ false) × (asker_of old other ≡ Some ticket))

  waits_for : (other ticket : ℕ) → asker_of new other ≡ Some ticket → WaitsFor other ticket
  waits_for other ticket is = by (nat_eq number other) refl (sym (asks.calls other) ∙ is)
    where
      by : (is_it : Bool) → nat_eq number other ≡ is_it → cond is_it (Some asks.ticket) (asker_of old other) ≡ Some ticket
          → WaitsFor other ticket
      by true e same = inl (eqb-true number other e, (let its : asks.ticket ≡ ticket = cc in its))
      by false e same = inr (e, same)

  awaited_now : AreAwaited (one_of new) (asker_of new)
  awaited_now = record {
    there = λ other ticket is. there other ticket (waits_for other ticket is);
    once = λ other another ticket is its. once other another ticket (waits_for other ticket is) (waits_for another ticket its);
  }
    where
      there : (other ticket : ℕ) → WaitsFor other ticket → HasAsked (one_of new ticket)
      there other ticket (inl both) = subst (λ t. HasAsked (one_of new t)) both.1 its_own.0.asked
      there other ticket (inr both) = subst HasAsked (sym (still_there other ticket both.1)) (awaited.there other ticket both.1)

      once : (other another ticket : ℕ) → WaitsFor other ticket → WaitsFor another ticket → other ≡ another
      once other another ticket (inl both) (inl its) = sym both.0 ∙ its.0
      once other another ticket (inl both) (inr its) =
          absurd (its_own.1 (awaited.there another asks.ticket (its.1 ∙ ap Some (sym both.1))))
      once other another ticket (inr both) (inl its) =
          absurd (its_own.1 (awaited.there other asks.ticket (both.1 ∙ ap Some (sym its.1))))
      once other another ticket (inr both) (inr its) = awaited.once other another ticket both.1 its.1

  earlier_apart : (ticket : ℕ) → ticket < old.calls.next → (number ≡ ticket) → ⊥
  earlier_apart ticket below same = let is = asks.is_next in omega (arith, below, same, is)

  may_on : (ticket : ℕ) (path : Text) → MayList (one_of old) (asker_of old) old.calls.next ticket path
      → MayList (one_of new) (asker_of new) new.calls.next ticket path
  may_on ticket path may own = (below, (λ its is. by its (waits_for ticket its is)))
    where
      below : ticket < new.calls.next
      below = let was = (may own).0 in let is = asks.next in omega (arith, was, is)

      by : (its : ℕ) → WaitsFor ticket its → ListsPath path (one_of new its)
      by its (inl both) = absurd (earlier_apart ticket (may own).0 both.0)
      by its (inr both) = subst (ListsPath path) (sym (still_there ticket its both.1)) ((may own).1 its both.1)

  may_now : (path : Text) (watch : Bool) → question_of call ≡ GetChildren path watch
      → MayList (one_of new) (asker_of new) new.calls.next number path
  may_now path watch question own = (below, (λ its is. by its (waits_for number its is)))
    where
      below : number < new.calls.next
      below = let is = asks.is_next in let then = asks.next in omega (arith, is, then)

      by : (its : ℕ) → WaitsFor number its → ListsPath path (one_of new its)
      by its (inl both) = subst (λ t. ListsPath path (one_of new t)) both.1 (its_own.0.lists path watch question)
      by its (inr both) = absurd (true≢false (sym (eq-eqb number number refl) ∙ both.0))

  listings_stay : (Is : Text → Listed Global → Type 0) → AreListed Is (one_of old) → AreListed Is (one_of new)
  listings_stay Is lists ticket = by (nat_eq asks.ticket ticket) (one_of old ticket) (one_of new ticket) (asks.asked ticket) (lists ticket)
    where
      by : (is_it : Bool) (was is : Option Contender) → IsChanged is_it (λ was is. IsAsked view now was call is) was is → HasListed Is was
          → HasListed Is is
      by false was is same has = subst (HasListed Is) (sym same) has
      by true None is same has = subst (HasListed Is) (sym same) tt
      by true (Some was) is changed has = subst (HasListed Is) (sym changed.1)
          (subst (λ (c : Contender). HasListed Is (Some c)) (sym changed.2.3) has)

-- One asks its call: it may be asked so.
pub asks_on_next : (view : View) (now number : ℕ) (call : Asked_call) (old new : Contenders Global) (chapter : Chapter)
    (line : List (Entry Global)) → Asks view now number call old new → Lists old chapter line []
    → Lists new chapter line [] × AskingOf new number (question_of call)
asks_on_next view now number call old new chapter line asks was = (
  lists_on (one_of old) (one_of new) (asker_of old) (asker_of new) old.calls.next new.calls.next chapter line [] []
      (awaited_now view now number call old new asks was.awaited) (may_on view now number call old new asks was.awaited)
      (λ none. listings_stay view now number call old new asks was.awaited (IsListedIn chapter) (was.listed none)) was,
  asks_where (MayList (one_of new) (asker_of new) new.calls.next) number (question_of call)
      (may_now view now number call old new asks was.awaited),
)
