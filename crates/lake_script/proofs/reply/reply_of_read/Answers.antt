use Rattle.std.proofs.Common.{◌≡◌, ◌≢◌, false, true, List, Result, Err, ℕ, inl, ap, refl, sym, ◌∙◌}
use Rattle.outcomes.specs.Outcome.{IsSaid}
use Rattle.source_core.specs.TailFaults.{read_refusal_view, says}
use Rattle.source_core.specs.Tailing.{ReadRefusal}
use Rattle.source_core.specs.TailTexts.{tailed}
use Rattle.log_rows.specs.declared.tail_fault.TailFault.{TailFault}
use Rattle.log_rows.specs.declared.tail_fault.TailFault.TheVariants as faults
use Rattle.source_core.proofs.Callers.{tailed_alike}
use Rattle.lake_script.specs.declared.reply.LineReply.TheVariants.{Bytes, NotTailed}
use Rattle.lake_script.specs.ReplyView.{is_short_reply, reply_text}
use Rattle.lake_script.specs.Runs.{no_room_to_read}
use Rattle.lake_script.specs.Told.{tailed_reply}
use Rattle.lake_script.proofs.RunsLemmas.{read_executed}
use Rattle.lake_script.proofs.AnyStoreLemmas.{refusal_answers, tail_lost}
use Rattle.lake_script.proofs.reply.reply_of_read.Goals as goal

-- the reply to a read that was refused, and lost no call
refused_reply : (fault : TailFault) (said : Result (List ℕ) ReadRefusal) → fault ≢ faults.Lost → is_short_reply (NotTailed fault) ≡ false → IsSaid (says (read_refusal_view fault)) said → reply_text (NotTailed fault) ≡ tailed_reply said
refused_reply faults.BadOffsetText said unlost enough is = sym (ap tailed_reply is)
refused_reply (faults.Unsupported fault) said unlost enough is = sym (ap tailed_reply is)
refused_reply (faults.BeyondLog next) said unlost enough is = sym (ap tailed_reply is)
refused_reply (faults.VersionGone first) said unlost enough is = sym (ap tailed_reply is)
refused_reply (faults.RowsRemoved version) said unlost enough is = sym (ap tailed_reply is)
refused_reply (faults.SchemaChanged version) said unlost enough is = sym (ap tailed_reply is)
refused_reply (faults.BadPlace version) said unlost enough is = sym (ap tailed_reply is)
refused_reply (faults.MissingFile path) said unlost enough is = sym (ap tailed_reply is)
refused_reply (faults.BadFile version file fault) said unlost enough is = sym (ap tailed_reply is)
refused_reply (faults.BadLog version) said unlost enough is = sym (ap tailed_reply is)
refused_reply faults.Lost said unlost enough is = absurd (unlost refl)
refused_reply faults.Memory said unlost enough is = cc

-- one that is short
short_read : (fault : TailFault) → is_short_reply (NotTailed fault) ≡ true → reply_text (NotTailed fault) ≡ no_room_to_read
short_read faults.Memory is = refl
short_read _ is = cc

pub returns-in-Ok-clause-told : goal.returns-in-Ok-clause-told
returns-in-Ok-clause-told c = λ use_checkpoints objects max offset well unlost gives enough.
    let told = rw c.in-Ok.is at gives in
    sym (ap tailed_reply (sym (tailed_alike use_checkpoints objects well max offset) ∙ told))

pub returns-in-Err-clause-told : goal.returns-in-Err-clause-told
returns-in-Err-clause-told c = λ use_checkpoints objects max offset well unlost gives enough.
    let said : IsSaid (says (read_refusal_view c.in-Err.fault)) (tailed use_checkpoints objects max offset) = rw c.in-Err.is at gives in
    refused_reply c.in-Err.fault (tailed use_checkpoints objects max offset) (λ lost. unlost (c.in-Err.is ∙ ap (λ (f : TailFault). Err f) lost)) enough said ∙ ap tailed_reply (tailed_alike use_checkpoints objects well max offset)

pub returns-in-Ok-clause-executed : goal.returns-in-Ok-clause-executed
returns-in-Ok-clause-executed c = λ use_checkpoints objects max offset well unlost gives.
    read_executed objects objects max offset (reply_text (Bytes c.in-Ok.text)) false (λ enough. returns-in-Ok-clause-told c use_checkpoints objects max offset well unlost gives refl) (λ short. cc) refl

pub returns-in-Err-clause-executed : goal.returns-in-Err-clause-executed
returns-in-Err-clause-executed c = λ use_checkpoints objects max offset well unlost gives.
    let reply = NotTailed c.in-Err.fault in
    read_executed objects objects max offset (reply_text reply) (is_short_reply reply) (returns-in-Err-clause-told c use_checkpoints objects max offset well unlost gives) (short_read c.in-Err.fault) refl

pub returns-in-Ok-clause-answers : goal.returns-in-Ok-clause-answers
returns-in-Ok-clause-answers c = λ said unlost gives. inl (sym (ap tailed_reply (rw c.in-Ok.is at gives)))

pub returns-in-Err-clause-answers : goal.returns-in-Err-clause-answers
returns-in-Err-clause-answers c = λ said unlost gives.
    refusal_answers c.in-Err.fault said (λ lost. unlost (c.in-Err.is ∙ ap (λ (f : TailFault). Err f) lost)) (rw c.in-Err.is at gives)

pub returns-in-Err-clause-told_lost : goal.returns-in-Err-clause-told_lost
returns-in-Err-clause-told_lost c = λ is. tail_lost c.in-Err.fault is
