-- A kind of contenders, without where it lies in memory.
use Rattle.std.specs.Prelude.{map}
use Rattle.zk_conclusions.specs.Numbers.{Kind}
use Rattle.zk_conclusions.specs.declared.numbers.Kind.{Kind as RustKind}

abbrev pub kind_of : RustKind → Kind
kind_of kind = record { own = kind.own.now; against = map (λ marker. marker.now) kind.against.now }
