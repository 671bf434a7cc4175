-- A class that is checked at a site.
use Rattle.grammar.specs.declared.site.Site.{Site}
use Rattle.library.specs.Contents.{Contents}
use Rattle.grammar.specs.PassTwo.{Scope, scope}
use Rattle.grammar.specs.Ready.{Ready}

-- what its declarations are checked against
abbrev pub scope_at : Contents → Site → Scope
scope_at w s = scope w s.class s.parent s.kept

-- they can be checked
abbrev pub ReadyAt : Contents → Site → Type 0
ReadyAt w s = Ready s.batch.nodes.now w s.kept s.parent
