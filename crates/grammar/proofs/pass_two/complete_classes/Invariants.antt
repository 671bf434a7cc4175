use Rattle.std.specs.Iterator.Adapters.{zip_first, zip_second}
use Rattle.parts.specs.Walk.{Over}
use Rattle.library.specs.Contents.{contents}
use Rattle.grammar.proofs.PassesTwo.{Completed}
use Rattle.grammar.proofs.pass_two.complete_classes.Given as goal

abbrev pub invariant-loop-p : goal.invariant-loop-p
invariant-loop-p l =
    record {
      over : Over l.batch.nodes.now l.fn.list.end (zip_first l.p-iterator);
      completed : Completed l.batch.nodes.now l.kept l.fn.list.end l.fn.number l.fn.list.first (contents l.initial.library) (contents l.library) (zip_second l.p-iterator).start (zip_first l.p-iterator).next;
    }
