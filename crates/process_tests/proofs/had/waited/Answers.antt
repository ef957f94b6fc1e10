use Rattle.process_tests.proofs.had.waited.Goals as goal

pub returns-in-Ok-clause-had : goal.returns-in-Ok-clause-had
returns-in-Ok-clause-had g c =
    c.waits_keep_what_was_had.ensures.let_go c.args.desk.now.host c.wait_and_forget.new.self.host c.args.request _ c.in-Ok.finished c.args.desk.now.requests.keys c.wait_and_forget.new.self.requests.keys c.in-Ok.ensures.waits

pub returns-in-Ok-clause-stays : goal.returns-in-Ok-clause-stays
returns-in-Ok-clause-stays g c =
    c.waits_keep_what_was_had.ensures.waits c.args.desk.now.host c.wait_and_forget.new.self.host c.args.request _ c.wait_and_forget.result c.args.desk.now.requests.keys c.wait_and_forget.new.self.requests.keys c.wait_and_forget.ensures.waits
