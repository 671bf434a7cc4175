use Rattle.parts.specs.Walk.{Over}
use Rattle.library.specs.Contents.{contents}
use Rattle.grammar.proofs.PassesOne.{Declared}
use Rattle.grammar.proofs.pass_one.declare_classes.Given as goal

abbrev pub invariant-loop-p : goal.invariant-loop-p
invariant-loop-p l =
    record {
      over : Over l.batch.nodes.now l.fn.list.end l.p-iterator;
      declared : Declared l.batch.nodes.now l.fn.list.end l.fn.list.first (contents l.initial.library) (contents l.library) l.p-iterator.next;
    }
