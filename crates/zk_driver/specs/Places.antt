-- Which addresses of a list were in the list before it, and whether the server of a connection is in it still.
use Rattle.std.specs.Prelude.{ℕ, Bool, true, false, not, nat_lt, List, length, Option, Some, None, bytes_eq}
use Rattle.std.specs.List.{filter, list_any}
use Rattle.zk_driver.specs.declared.channel.Attempt.{Attempt}

-- whether an address is one of these, each of which has a text
abbrev pub stands_in : {X : Type 0} → (text : X → List ℕ) → List X → (address : List ℕ) → Bool
stands_in text list address = list_any (λ one. bytes_eq (text one) address) list

abbrev pub is_of : (is_kept stands : Bool) → Bool
is_of true stands = stands
is_of false stands = not stands

-- Those that are in the other list, or those that are not, in the order of their own.
abbrev pub group : {X : Type 0} → (text : X → List ℕ) → (others : List X) → (is_kept : Bool) → List X → List X
group text others is_kept list = filter (λ one. is_of is_kept (stands_in text others (text one))) list

-- Whether a list has the address that was dialled last. An attempt that is not made yet is made at its place of this list.
abbrev pub is_listed : {X : Type 0} → (text : X → List ℕ) → Option Attempt → (dialled : Option X) → List X → Bool
is_listed text (Some attempt) dialled list = nat_lt attempt.place (length list)
is_listed text None (Some address) list = stands_in text list (text address)
is_listed text None None list = true
