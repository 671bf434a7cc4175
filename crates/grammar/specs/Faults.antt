-- Broken rules: their numbers, and how a fault is carried up.
use Rattle.std.specs.Prelude.{ℕ, Some, None}
use Rattle.grammar.specs.declared.fault.Rule.{Rule}
use Rattle.grammar.specs.declared.fault.Rule.TheVariants.{Identifier, TypeName, Class, Members, Fields, Field, Methods, Method, Param, Params, Var, Return, Assigned, Condition, Printed, Binary, Unary, Cast, InstanceOf, New, This, Selection, Protected, Variable, FieldName, MethodCall, MethodName, ExtraArgument, MissingArgument}
use Rattle.grammar.specs.declared.fault.Pass.{Pass}
use Rattle.grammar.specs.declared.fault.Pass.TheVariants.{One, Two, Three}
use Rattle.grammar.specs.declared.fault.RuleFault.{RuleFault}
use Rattle.grammar.specs.declared.fault.MemberFault.{MemberFault}
use Rattle.grammar.specs.declared.fault.BatchFault.{BatchFault}

-- the number that a rule is reported under
abbrev pub rule_number : Rule → ℕ
rule_number Identifier = 1
rule_number TypeName = 2
rule_number Class = 103
rule_number Members = 203
rule_number Fields = 204
rule_number Field = 205
rule_number Methods = 206
rule_number Method = 207
rule_number Param = 209
rule_number Params = 312
rule_number Var = 317
rule_number Return = 324
rule_number Assigned = 328
rule_number Condition = 329
rule_number Printed = 331
rule_number Binary = 333
rule_number Unary = 337
rule_number Cast = 339
rule_number InstanceOf = 340
rule_number New = 342
rule_number This = 343
rule_number Selection = 365
rule_number Protected = 366
rule_number Variable = 367
rule_number FieldName = 370
rule_number MethodCall = 371
rule_number MethodName = 372
rule_number ExtraArgument = 373
rule_number MissingArgument = 374

abbrev pub pass_number : Pass → ℕ
pass_number One = 1
pass_number Two = 2
pass_number Three = 3

-- a rule, broken at a node
abbrev pub broken : Rule → ℕ → RuleFault
broken r p = record { rule = r; node = p }

-- inside no member
abbrev pub in_no_member : RuleFault → MemberFault
in_no_member f = record { member = None; fault = f }

-- inside the member of that symbol
abbrev pub in_member : ℕ → RuleFault → MemberFault
in_member x f = record { member = Some x; fault = f }

-- inside the class of that symbol, in a pass
abbrev pub in_class : Pass → ℕ → MemberFault → BatchFault
in_class n x f = record { pass = n; class = Some x; fault = f }
