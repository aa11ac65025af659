mod PrintedPlans
