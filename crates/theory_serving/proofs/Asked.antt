-- What was asked was about paths, with values of their types: each part of what may be asked, by induction on the items.
use Rattle.std.specs.Prelude.{List, [], ◌∷◌}
use Rattle.zk_conversation.specs.Calls.{Call as Asked_call}
use Rattle.zk_turns.specs.Turns.{Input, Opened, Cut, Bytes, Now, Call, Item, Turned, Forgets, Halts, IsAskable, AsksOf, AllAskOf}
use Rattle.zk_turns.specs.Ranges.{IsTyped, IsPathCall}

one_asked : (P Q : Asked_call → Type 0) → ((call : Asked_call) → P call → Q call) → (input : Input) → AsksOf P input → AsksOf Q input
one_asked P Q part (Call ticket call) a = part call a
one_asked P Q part Opened a = tt
one_asked P Q part Cut a = tt
one_asked P Q part (Bytes bytes) a = tt
one_asked P Q part (Now moment) a = tt

all_asked : (P Q : Asked_call → Type 0) → ((call : Asked_call) → P call → Q call) → (items : List Item)
    → AllAskOf P items → AllAskOf Q items
all_asked P Q part [] a = tt
all_asked P Q part (Turned turn ∷ items) a = (one_asked P Q part turn.input a.0, all_asked P Q part items a.1)
all_asked P Q part (Forgets ∷ items) a = all_asked P Q part items a
all_asked P Q part (Halts ∷ items) a = all_asked P Q part items a

pub all_typed : (items : List Item) → AllAskOf IsAskable items → AllAskOf IsTyped items
all_typed items a = all_asked IsAskable IsTyped (λ call asked. asked.0) items a

pub all_paths : (items : List Item) → AllAskOf IsAskable items → AllAskOf IsPathCall items
all_paths items a = all_asked IsAskable IsPathCall (λ call asked. asked.1) items a
