use Rattle.wb_text.proofs.LineFeeds.{ends_with_line_feed}
use Rattle.wb_text.proofs.reply.reply_laws.Goals as goal

pub returns : goal.returns
returns c = ends_with_line_feed
