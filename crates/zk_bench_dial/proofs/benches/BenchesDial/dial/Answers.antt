-- What is taken from the end of the lines is one of them (`All-pop`): its first server is up (`up_first`), and it is dialled
-- (`is_dialled`).
use Rattle.std.proofs.Common.{ℕ, subst, IfSome, Option}
use Rattle.std.proofs.lemmas.List.Elements.{All-pop}
use Rattle.zk_bench.specs.Served.{Served}
use Rattle.zk_bench_dial.specs.Lines.{IsLeft}
use Rattle.zk_bench_dial.proofs.Passing.{is_dialled, up_first}
use Rattle.zk_bench_dial.proofs.benches.BenchesDial.dial.Goals as goal

pub invariant_of-result : goal.invariant_of-result
invariant_of-result g c =
    let popped = (All-pop (IsLeft g.K.Past.past) _ _ c.pop.result c.pop.ensures.items c.args.self.now.are).1 in
    record {
      is = up_first g.K.Past.past c.in-Some.bench c.connect.new.self c.in-Some.waits
          (subst (λ (o : Option (Served × ℕ)). IfSome o (IsLeft g.K.Past.past)) c.in-Some.is popped)
          c.connect.ensures.is c.connect.ensures.ready;
    }

pub returns : goal.returns
returns g c =
    let popped = (All-pop (IsLeft g.K.Past.past) _ _ c.pop.result c.pop.ensures.items c.args.self.now.are).1 in
    record {
      begins = is_dialled g.K.Past.past c.in-Some.bench c.connect.new.self c.in-Some.waits
          (subst (λ (o : Option (Served × ℕ)). IfSome o (IsLeft g.K.Past.past)) c.in-Some.is popped)
          c.connect.ensures.is c.connect.ensures.ready;
    }
