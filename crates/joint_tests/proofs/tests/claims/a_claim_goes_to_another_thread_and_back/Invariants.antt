-- There is one warehouse, and the type parameter identifies the seats that the test opens.
use Rattle.joint_tests.proofs.tests.claims.a_claim_goes_to_another_thread_and_back.Given as goal

abbrev pub ghosts-shared_by_two_threads : goal.ghosts-shared_by_two_threads
ghosts-shared_by_two_threads g a = record { warehouses = 1; committed = λ group. a.seats.committed; work = λ group. a.seats.work }
