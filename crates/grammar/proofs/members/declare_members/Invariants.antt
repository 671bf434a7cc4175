use Rattle.parts.specs.Walk.{Over}
use Rattle.library.specs.Contents.{contents}
use Rattle.grammar.proofs.Gathered.{Gathered}
use Rattle.grammar.proofs.members.declare_members.Given as goal

abbrev pub invariant-loop-p : goal.invariant-loop-p
invariant-loop-p g l =
    let K = g.K.MemberKind in
    let s = l.site in
    let T = s.batch.nodes.now in
    record {
      over : Over T l.fn.list.end l.p-iterator;
      gathered : Gathered T K.class K.REPEATED (K.named T) (K.is T) (K.breaks T) l.fn.list.end l.fn.list.first s.class s.parent s.kept (contents l.initial.library) (contents l.library) l.p-iterator.next;
    }
