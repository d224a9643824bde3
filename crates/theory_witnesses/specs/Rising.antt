-- A history in which two sessions wait in line: session 7 makes /n-0000000001 at 5 and session 8 makes /n-0000000002 at 6; at 9 session 7
-- is over.
use Rattle.std.specs.Prelude.{pos, [], ◌∷◌, None}
use Rattle.zk_nodes.specs.Path.{Name, NodePath}
use Rattle.zk_nodes.specs.History.{Creates, Deletes, Transaction, History}
use Rattle.zk_conclusions.specs.Numbers.{Kind}
use Rattle.theory_messages.specs.Example.{root_alone}

abbrev pub line : NodePath
line = []

abbrev pub in_line : Name
in_line = 110 ∷ 45 ∷ []

abbrev pub first_name : Name
first_name = 110 ∷ 45 ∷ 48 ∷ 48 ∷ 48 ∷ 48 ∷ 48 ∷ 48 ∷ 48 ∷ 48 ∷ 48 ∷ 49 ∷ []

abbrev pub second_name : Name
second_name = 110 ∷ 45 ∷ 48 ∷ 48 ∷ 48 ∷ 48 ∷ 48 ∷ 48 ∷ 48 ∷ 48 ∷ 48 ∷ 50 ∷ []

-- each is a rival of each
abbrev pub numbered : Kind
numbered = record { own = in_line; against = in_line ∷ [] }

abbrev pub first_comes : Transaction
first_comes = record { zxid = 5; time = pos 1000; changes = Creates (first_name ∷ line) None (pos 7) ∷ [] }

abbrev pub second_comes : Transaction
second_comes = record { zxid = 6; time = pos 2000; changes = Creates (second_name ∷ line) None (pos 8) ∷ [] }

abbrev pub first_goes : Transaction
first_goes = record { zxid = 9; time = pos 3000; changes = Deletes (first_name ∷ line) ∷ [] }

abbrev pub two_in_line : History
two_in_line = record { first = root_alone; transactions = first_comes ∷ second_comes ∷ first_goes ∷ [] }
