use Rattle.kb_log_text.proofs.ReadLaws.{is_line_format}
use Rattle.kb_log_text.proofs.reading.read_log.Goals as goal

pub read_lines-requires : goal.read_lines-requires
read_lines-requires c = is_line_format
