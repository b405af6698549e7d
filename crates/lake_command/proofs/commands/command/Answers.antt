use Rattle.std.proofs.Common.{◌≡◌, inl, inr, refl, sym, ap, ◌∙◌, option_map}
use Rattle.lake_words.specs.Asked.{check, command_view, explain, script, table, work_view}
use Rattle.lake_command.specs.Scripts.{script_uses_checkpoints}
use Rattle.lake_command.specs.Status.{status_of_kind}
use Rattle.lake_command.proofs.ScriptLemmas.{no_job, no_other, status_of_words}
use Rattle.lake_command.proofs.commands.command.Goals as goal

pub returns-in-Ok-Script : goal.returns-in-Ok-Script
returns-in-Ok-Script g c = record {
  script = λ command spells.
      let same = sym c.in-Ok-Script.field-0-is ∙ c.in-Ok-Script.ensures.spelled command spells in
      rw (sym (ap script_uses_checkpoints same)) c.script_command.ensures;
  job = λ folder use_checkpoints work spells.
      let same : script c.in-Ok-Script.use_checkpoints ≡ table folder use_checkpoints work = sym (ap command_view c.in-Ok-Script.field-0-is) ∙ c.in-Ok-Script.ensures.job_spelled (table folder use_checkpoints work) spells in
      absurd cc;
  checks = λ folder spells.
      let same : script c.in-Ok-Script.use_checkpoints ≡ check folder = sym (ap command_view c.in-Ok-Script.field-0-is) ∙ c.in-Ok-Script.ensures.job_spelled (check folder) spells in
      absurd cc;
  explains = λ asked spells.
      let same : script c.in-Ok-Script.use_checkpoints ≡ explain asked = sym (ap command_view c.in-Ok-Script.field-0-is) ∙ c.in-Ok-Script.ensures.job_spelled (explain asked) spells in
      absurd cc;
  misread = λ some. absurd (some c.in-Ok-Script.ensures.kinds);
}

pub returns-in-Ok-Table : goal.returns-in-Ok-Table
returns-in-Ok-Table g c = record {
  script = λ command spells. absurd (no_job _ command c.in-Ok-Table.command spells (sym c.in-Ok-Table.field-0-is ∙ c.in-Ok-Table.ensures.spelled command spells));
  job = λ folder use_checkpoints work spells.
      let same : table c.in-Ok-Table.command.folder.now c.in-Ok-Table.command.use_checkpoints (work_view c.in-Ok-Table.command.job) ≡ table folder use_checkpoints work =
      sym (ap command_view c.in-Ok-Table.field-0-is) ∙ c.in-Ok-Table.ensures.job_spelled (table folder use_checkpoints work) spells in
      let is_folder : folder ≡ c.in-Ok-Table.command.folder.now = cc in
      let is_read_so : use_checkpoints ≡ c.in-Ok-Table.command.use_checkpoints = cc in
      let is_work : work ≡ work_view c.in-Ok-Table.command.job = cc in
      rw (is_folder, is_read_so, is_work) c.table_on_disk.ensures;
  checks = λ folder spells.
      let same : table c.in-Ok-Table.command.folder.now c.in-Ok-Table.command.use_checkpoints (work_view c.in-Ok-Table.command.job) ≡ check folder = sym (ap command_view c.in-Ok-Table.field-0-is) ∙ c.in-Ok-Table.ensures.job_spelled (check folder) spells in
      absurd cc;
  explains = λ asked spells.
      let same : table c.in-Ok-Table.command.folder.now c.in-Ok-Table.command.use_checkpoints (work_view c.in-Ok-Table.command.job) ≡ explain asked = sym (ap command_view c.in-Ok-Table.field-0-is) ∙ c.in-Ok-Table.ensures.job_spelled (explain asked) spells in
      absurd cc;
  misread = λ some. absurd (some c.in-Ok-Table.ensures.kinds);
}

pub returns-in-Ok-Check : goal.returns-in-Ok-Check
returns-in-Ok-Check g c = record {
  script = λ command spells. absurd (no_other _ command _ spells (sym c.in-Ok-Check.field-0-is ∙ c.in-Ok-Check.ensures.spelled command spells) refl);
  job = λ folder use_checkpoints work spells.
      let same : check c.in-Ok-Check.folder.now ≡ table folder use_checkpoints work = sym (ap command_view c.in-Ok-Check.field-0-is) ∙ c.in-Ok-Check.ensures.job_spelled (table folder use_checkpoints work) spells in
      absurd cc;
  checks = λ folder spells.
      let same : check c.in-Ok-Check.folder.now ≡ check folder = sym (ap command_view c.in-Ok-Check.field-0-is) ∙ c.in-Ok-Check.ensures.job_spelled (check folder) spells in
      let is : c.in-Ok-Check.folder.now ≡ folder = cc in
      (refl, rw is at c.check_on_disk.ensures);
  explains = λ asked spells.
      let same : check c.in-Ok-Check.folder.now ≡ explain asked = sym (ap command_view c.in-Ok-Check.field-0-is) ∙ c.in-Ok-Check.ensures.job_spelled (explain asked) spells in
      absurd cc;
  misread = λ some. absurd (some c.in-Ok-Check.ensures.kinds);
}

pub returns-in-Ok-Explain : goal.returns-in-Ok-Explain
returns-in-Ok-Explain g c = record {
  script = λ command spells. absurd (no_other _ command _ spells (sym c.in-Ok-Explain.field-0-is ∙ c.in-Ok-Explain.ensures.spelled command spells) refl);
  job = λ folder use_checkpoints work spells.
      let same : explain (option_map (λ text. text.now) c.in-Ok-Explain.asked) ≡ table folder use_checkpoints work = sym (ap command_view c.in-Ok-Explain.field-0-is) ∙ c.in-Ok-Explain.ensures.job_spelled (table folder use_checkpoints work) spells in
      absurd cc;
  checks = λ folder spells.
      let same : explain (option_map (λ text. text.now) c.in-Ok-Explain.asked) ≡ check folder = sym (ap command_view c.in-Ok-Explain.field-0-is) ∙ c.in-Ok-Explain.ensures.job_spelled (check folder) spells in
      absurd cc;
  explains = λ asked spells.
      let same : explain (option_map (λ text. text.now) c.in-Ok-Explain.asked) ≡ explain asked = sym (ap command_view c.in-Ok-Explain.field-0-is) ∙ c.in-Ok-Explain.ensures.job_spelled (explain asked) spells in
      let is : option_map (λ text. text.now) c.in-Ok-Explain.asked ≡ asked = cc in
      (refl, inr (rw is at c.explain_command.ensures));
  misread = λ some. absurd (some c.in-Ok-Explain.ensures.kinds);
}

pub returns-in-Err : goal.returns-in-Err
returns-in-Err g c = record {
  script = λ command spells.
      let memory = c.in-Err.ensures.spelled command spells in
      let one = c.tell_misread.ensures.status ∙ ap status_of_kind memory in
      record {
        script = λ fine. absurd (fine one);
        status = λ fine. absurd (fine one);
        refused = λ is. inl (c.tell_misread.ensures.short memory);
      };
  job = λ folder use_checkpoints work spells.
      let memory = c.in-Err.ensures.job_spelled (table folder use_checkpoints work) spells in
      let one = c.tell_misread.ensures.status ∙ ap status_of_kind memory in
      let short = c.tell_misread.ensures.short memory in
      record {
        job = inl (one, short);
        counted = λ other. inr (inl short);
        input_untouched = λ reads. refl;
      };
  checks = λ folder spells.
      let memory = c.in-Err.ensures.job_spelled (check folder) spells in
      (refl, inl (refl, c.tell_misread.ensures.status ∙ ap status_of_kind memory, c.tell_misread.ensures.short memory));
  explains = λ asked spells.
      let memory = c.in-Err.ensures.job_spelled (explain asked) spells in
      (refl, inl (c.tell_misread.ensures.status ∙ ap status_of_kind memory, c.tell_misread.ensures.short memory));
  misread = λ some. record {
    misused = status_of_words _ _ _ _ c.tell_misread.ensures.status c.tell_misread.ensures.short c.in-Err.ensures.kinds;
    unread = (refl, refl);
  };
}
