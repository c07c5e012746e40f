use Rattle.journal_replay.proofs.ReplayLaws.{put_answer}
use Rattle.journal_replay.proofs.write_answer.Goals as goal

pub returns : goal.returns
returns c = search put_answer
