use Rattle.parts.specs.Walk.{Over}
use Rattle.library.specs.Contents.{contents}
use Rattle.grammar.proofs.Params.{Listed}
use Rattle.grammar.proofs.methods.params.Given as goal

abbrev pub invariant-loop-p : goal.invariant-loop-p
invariant-loop-p l =
    record {
      over : Over l.batch.nodes.now l.fn.list.end l.p-iterator;
      listed : Listed l.batch.nodes.now (contents l.library).classes l.fn.list.end l.fn.list.first l.types l.p-iterator.next;
    }
