use Rattle.front_reads.proofs.FrontReads.{read_whole}
use Rattle.front_reads.proofs.laws.a_front_is_read_as_the_whole.Goals as goal

pub returns : goal.returns
returns c = λ objects front max offset end known others any told rises is some ends goes all. read_whole objects front max offset rises is end known others any told some ends goes all
