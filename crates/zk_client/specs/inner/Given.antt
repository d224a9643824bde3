-- What a client is given.
use Rattle.zk_turns.specs.Turns as turns
use Rattle.zk_client.specs.Views.{input_view}
use Rattle.zk_client.specs.declared.input.Given.{Given}
use Rattle.zk_client.specs.declared.input.Given.TheVariants as given

-- bytes that are lent are bytes that come
abbrev pub given_view : {A : Type 0} → Given A → turns.Input
given_view (given.Input input) = input_view input
given_view (given.Lent bytes) = turns.Bytes bytes.now
