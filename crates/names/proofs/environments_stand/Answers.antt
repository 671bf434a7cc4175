use Rattle.names.proofs.Stacking.{lookup_append, lookup_found, lookup_absent}
use Rattle.names.proofs.Unions.{apart_none, stacked_comm}
use Rattle.names.proofs.environments_stand.Goals as goal

pub returns : goal.returns
returns g c = record { appended = lookup_append; apart = apart_none; either_way = stacked_comm; found = lookup_found; absent = lookup_absent }
