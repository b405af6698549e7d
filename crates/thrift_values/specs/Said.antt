-- What the errors of the code say of a reading.
use Rattle.outcomes.specs.Outcome.{Said, refuses, says_nothing}
use Rattle.thrift_values.specs.declared.fault.ThriftFault.{ThriftFault}
use Rattle.thrift_values.specs.declared.fault.ReadError.{ReadError}
use Rattle.thrift_values.specs.declared.fault.ReadError.TheVariants as errors

-- what each fault of the code says
abbrev pub says : ReadError → Said ThriftFault
says errors.Memory = says_nothing
says (errors.Fault fault) = refuses fault
