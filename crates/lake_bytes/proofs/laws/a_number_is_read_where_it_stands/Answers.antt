use Rattle.lake_bytes.proofs.Signs.{signed_found, signed_stands}
use Rattle.lake_bytes.proofs.Varints.{varint_found, varint_stands}
use Rattle.lake_bytes.proofs.laws.a_number_is_read_where_it_stands.Goals as goal

pub returns-clause-found : goal.returns-clause-found
returns-clause-found c = λ bytes rest n. varint_found bytes n rest

pub returns-clause-stands : goal.returns-clause-stands
returns-clause-stands c = varint_stands

pub returns-clause-signed_found : goal.returns-clause-signed_found
returns-clause-signed_found c = λ width bytes rest z. signed_found width bytes z rest

pub returns-clause-signed_stands : goal.returns-clause-signed_stands
returns-clause-signed_stands c = signed_stands
