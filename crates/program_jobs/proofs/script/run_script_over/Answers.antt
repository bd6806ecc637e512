use Rattle.program_jobs.proofs.script.run_script_over.Goals as goal

pub returns : goal.returns
returns g c = record {
  result = c.run_script.result;
  end_is = c.end_of.ensures;
  rest = g.R.Read.remaining c.run_script.new.reader;
  ran = c.run_script.ensures.answer;
  stays = c.run_script.ensures.stays;
  left = c.run_script.ensures.crash;
  read = c.run_script.ensures.read;
  begun = c.run_script.ensures.begun;
  counts = c.run_script.ensures.count;
}
